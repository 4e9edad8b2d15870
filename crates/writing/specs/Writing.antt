-- What put, set and del answer and what they leave of the list, for all inputs. To be believed: this is their whole contract.
use Rattle.std.specs.Prelude.{Bool, true, false, cond, not, List, [], ◌∷◌, ℕ, ltb, eqb, length, Option, Some, None, Result, Ok, Err}
use Rattle.std.specs.Option.{unwrap_or}
use Rattle.words.specs.Words.{reads}
use Rattle.words.specs.Bools.{both}
use Rattle.leaf.specs.Leaf.{Leaf}
use Rattle.leaf.specs.Search.{lowest, slot_of, count}
use Rattle.steps.specs.Refusals.{answer, bad_image, number_of}
use Rattle.steps.specs.declared.refusal.Refusal.{Refusal}
use Rattle.steps.specs.declared.Step.{Step}
use Rattle.steps.specs.Model.{line_writes, word_writes}
use Rattle.steps.specs.Encoding.{steps_of, written}
use Rattle.image.specs.Map.{lookup}
use Rattle.image.specs.Image.{blocks, leaves}
use Rattle.verdict.specs.Place.{target_from, before_from}
use Rattle.index.specs.Reading.{is_sound, chain_of, entries_in, is_none}
use Rattle.lists.specs.Lists.{set_list, del_list}
use Rattle.lists.specs.FullLists.{put_list}
use Rattle.writing.specs.declared.Made.{Made}

-- ---- where a key belongs

-- "The target leaf of a key is the last chained leaf whose smallest key is at most that key; if there is none, block 0"
abbrev pub target_of : List ℕ → ℕ → ℕ
target_of l k = target_from (leaves l) k 0 (chain_of l)

-- "the leaf before it"
abbrev pub before_of : List ℕ → ℕ → ℕ
before_of l k = before_from (leaves l) k 0 0 (chain_of l)

abbrev pub place_of : List ℕ → ℕ → Option ℕ
place_of l k = slot_of (leaves l (target_of l k)) k

-- "take the lowest block not in the chain"
abbrev pub is_among : ℕ → List ℕ → Bool
is_among b [] = false
is_among b (c ∷ cs) = cond (eqb c b) true (is_among b cs)

abbrev pub free_of : List ℕ → Option ℕ
free_of l = lowest (λ b. not (is_among b (chain_of l))) (blocks l) 0

-- ---- what a call tells and leaves

-- "Put, set and del only write the list, from its start, and tell steps, line writes and word writes."
pub record Outcome : Type 0 where
  pub answer : ℕ
  pub steps : ℕ
  pub lines : ℕ
  pub words : ℕ
  pub list : List ℕ

-- "A refusal tells 0 for every count and value and changes no buffer. On success, words past the list (..) stay."
abbrev pub outcome : ℕ → List Step → List ℕ → Outcome
outcome n made list = record {
  answer = n;
  steps = cond (eqb n 0) (length made) 0;
  lines = cond (eqb n 0) (line_writes (steps_of made) (length made)) 0;
  words = cond (eqb n 0) (word_writes (steps_of made) (length made)) 0;
  list = cond (eqb n 0) (written made list) list;
}

-- "When an answer is an enum, a definition gives this paper's number and values for each of its cases": beside the list as it is left
abbrev pub made_as : Result Made Refusal → List ℕ → Outcome
made_as (Ok m) list = record { answer = 0; steps = m.steps; lines = m.line_writes.0; words = m.word_writes.0; list = list }
made_as (Err refusal) list = record { answer = number_of refusal; steps = 0; lines = 0; words = 0; list = list }

-- ---- the calls. "Order: 1, 2, 8, 3, 4, 5, 6 as they apply"

-- 2: "put, set, del: list room under 112 words"
abbrev pub short_list : List ℕ → Bool
short_list list = ltb (length list) 112

-- 5: "find, set, del: key absent"
abbrev pub change_table : List ℕ → List ℕ → ℕ → List (ℕ × Bool)
change_table l list k = (1, bad_image (length l)) ∷ (2, short_list list) ∷ (3, not (is_sound l)) ∷ (5, is_none (lookup k (entries_in l))) ∷ []

abbrev pub at_slot : Option ℕ → (ℕ → List Step) → List Step
at_slot (Some s) f = f s
at_slot None f = []

unfoldable pub set_of : List ℕ → List ℕ → ℕ → ℕ → Outcome
set_of l list k v = outcome (answer (change_table l list k)) (at_slot (place_of l k) (λ s. set_list (target_of l k) s v)) list

unfoldable pub del_of : List ℕ → List ℕ → ℕ → Outcome
del_of l list k =
    outcome (answer (change_table l list k)) (at_slot (place_of l k) (λ s. del_list (reads l) (before_of l k) (target_of l k) s)) list

-- 4: "put: key present"; 6: "put: target full and all N blocks chained"
abbrev pub is_full : Leaf → Bool
is_full L = eqb (count L) L.size

abbrev pub put_table : List ℕ → List ℕ → ℕ → List (ℕ × Bool)
put_table l list k =
    (1, bad_image (length l)) ∷ (2, short_list list) ∷ (3, not (is_sound l)) ∷ (4, not (is_none (lookup k (entries_in l))))
    ∷ (6, both (is_full (leaves l (target_of l k))) (is_none (free_of l))) ∷ []

unfoldable pub put_of : List ℕ → List ℕ → ℕ → ℕ → Outcome
put_of l list k v = outcome (answer (put_table l list k)) (put_list (reads l) (target_of l k) (unwrap_or (free_of l) 0) k v) list
