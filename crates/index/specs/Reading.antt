-- What find, listing and recovery answer, for all inputs. To be believed: this is their whole contract.
use Rattle.std.specs.Prelude.{Bool, true, false, cond, not, ◌||◌, List, [], ◌∷◌, ◌++◌, map, ℕ, zero, suc, min, eqb, ltb, length, take, drop, Option, Some, None, Result, Ok, Err}
use Rattle.leaf.specs.Leaf.{Leaf}
use Rattle.leaf.specs.Search.{smallest_of}
use Rattle.steps.specs.declared.refusal.Refusal.{Refusal}
use Rattle.steps.specs.Refusals.{answer, bad_image, number_of}
use Rattle.image.specs.Map.{Entry, lookup, starting_at}
use Rattle.image.specs.Entries.{list_of}
use Rattle.image.specs.Image.{blocks, leaves}
use Rattle.survey.specs.Walk.{surveyed}
use Rattle.index.specs.declared.recovery.Recovered.{Recovered}

-- ---- the image

-- Refusal 3, "image not sound", as a test: `SoundTest` proves that it is image's `SoundImage`.
unfoldable pub is_sound : List ℕ → Bool
is_sound l = eqb (surveyed (leaves l) (blocks l) 0).stage 1

-- "A sibling is a block number; 0 ends the chain": the blocks met from block b on, at most n
unfoldable pub chain_from : (ℕ → Leaf) → ℕ → ℕ → List ℕ
chain_from I zero b = []
chain_from I (suc n) b = b ∷ cond (eqb (I b).next 0) [] (chain_from I n (I b).next)

unfoldable pub chain_of : List ℕ → List ℕ
chain_of l = chain_from (leaves l) (blocks l) 0

-- "The map of a sound image is its occupied entries", rising
unfoldable pub entries_in : List ℕ → List Entry
entries_in l = list_of (leaves l) (chain_of l)

-- ---- find

-- "When an answer is an enum, a definition gives this paper's number and values for each of its cases."
pub record Told : Type 0 where
  pub answer : ℕ
  pub value : ℕ

abbrev pub told : ℕ → ℕ → Told
told n v = record { answer = n; value = v }

abbrev pub found_as : Result ℕ Refusal → Told
found_as (Ok v) = told 0 v
found_as (Err r) = told (number_of r) 0

abbrev pub is_none : Option ℕ → Bool
is_none (Some v) = false
is_none None = true

abbrev pub value_or0 : Option ℕ → ℕ
value_or0 (Some v) = v
value_or0 None = 0

-- "Order: 1, 2, 8, 3, 4, 5, 6 as they apply": 1, 3 and 5, "find, set, del: key absent"
abbrev pub find_table : List ℕ → ℕ → List (ℕ × Bool)
find_table l k = (1, bad_image (length l)) ∷ (3, not (is_sound l)) ∷ (5, is_none (lookup k (entries_in l))) ∷ []

-- "A refusal tells 0 for every count and value"
unfoldable pub find_of : List ℕ → ℕ → Told
find_of l k =
    let n = answer (find_table l k) in told n (cond (eqb n 0) (value_or0 (lookup k (entries_in l))) 0)

-- ---- listing

pub record Counted : Type 0 where
  pub answer : ℕ
  pub count : ℕ

abbrev pub counted : ℕ → ℕ → Counted
counted n m = record { answer = n; count = m }

abbrev pub listed_as : Result ℕ Refusal → Counted
listed_as (Ok m) = counted 0 m
listed_as (Err r) = counted (number_of r) 0

-- what it tells, and what the two buffers hold then
pub record Listing : Type 0 where
  pub told : Counted
  pub keys : List ℕ
  pub values : List ℕ

abbrev pub listing_is : Counted → List ℕ → List ℕ → Listing
listing_is t keys values = record { told = t; keys = keys; values = values }

-- "On success, (..) entries past what listing or recovery tells, stay": the first elements of a buffer become xs
abbrev pub over : List ℕ → List ℕ → List ℕ
over xs buffer = xs ++ drop (length xs) buffer

abbrev pub listing_table : List ℕ → List (ℕ × Bool)
listing_table l = (1, bad_image (length l)) ∷ (3, not (is_sound l)) ∷ []

-- "keys and values, rising, of entries with that key or above, as many as the shorter of two lent buffers holds"
abbrev pub listed : List ℕ → ℕ → List ℕ → List ℕ → List Entry
listed l from keys values = take (min (length keys) (length values)) (starting_at from (entries_in l))

-- "Listing from a key writes (..), and tells how many." "A refusal tells 0 for every count and value and changes no buffer."
unfoldable pub listing_of : List ℕ → ℕ → List ℕ → List ℕ → Listing
listing_of l from keys values =
    let n = answer (listing_table l) in
    let es = listed l from keys values in
    cond (eqb n 0)
    (listing_is (counted n (length es)) (over (map (λ e. e.key) es) keys) (over (map (λ e. e.val) es) values))
    (listing_is (counted n 0) keys values)

-- ---- recovery

pub record Sizes : Type 0 where
  pub answer : ℕ
  pub leaves : ℕ
  pub entries : ℕ

abbrev pub sizes : ℕ → ℕ → ℕ → Sizes
sizes n b m = record { answer = n; leaves = b; entries = m }

abbrev pub recovered_as : Result Recovered Refusal → Sizes
recovered_as (Ok r) = sizes 0 r.leaves r.entries
recovered_as (Err r) = sizes (number_of r) 0 0

-- what it tells, and what the two buffers hold then
pub record Recovery : Type 0 where
  pub told : Sizes
  pub smallest : List ℕ
  pub blocks : List ℕ

abbrev pub recovery_is : Sizes → List ℕ → List ℕ → Recovery
recovery_is t smallest numbers = record { told = t; smallest = smallest; blocks = numbers }

-- 8, "recovery: either buffer under N entries"
abbrev pub is_short : ℕ → ℕ → ℕ → Bool
is_short N smallest numbers = ltb smallest N || ltb numbers N

abbrev pub recovery_table : List ℕ → List ℕ → List ℕ → List (ℕ × Bool)
recovery_table l smallest numbers =
    (1, bad_image (length l)) ∷ (8, is_short (blocks l) (length smallest) (length numbers)) ∷ (3, not (is_sound l)) ∷ []

-- "Recovery judges the image and writes, in chain order, each leaf's smallest key (0 for an empty block 0) and block number,
-- and tells the leaves and entries."
unfoldable pub recovery_of : List ℕ → List ℕ → List ℕ → Recovery
recovery_of l smallest numbers =
    let n = answer (recovery_table l smallest numbers) in
    let bs = chain_of l in
    cond (eqb n 0)
    (recovery_is (sizes n (length bs) (length (entries_in l))) (over (map (λ b. smallest_of (leaves l b)) bs) smallest)
    (over bs numbers))
    (recovery_is (sizes n 0 0) smallest numbers)
