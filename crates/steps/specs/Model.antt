-- The memory model: document 01's section "Steps", sentence by sentence. To be believed.
-- Steps are given by index: `s i` is step i, and "the first n steps" are those below n. A memory is any type with a
-- store of a word. Two things are parameters, since later modes change them and nothing else. `unit` gives the ordering
-- unit of a word, whose stores arrive in order: it is the word's line here. `rule` is what a store, a write-back and a
-- fence have to do with each other for the store to be settled.
use Rattle.std.specs.Prelude.{ℕ, zero, suc, ◌≤◌, ◌/◌, Bool, true, false, cond, ltb, eqb}
use Rattle.words.specs.Bools.{both}
use Rattle.words.specs.Below.{any_below, count_below}
pub use Rattle.steps.specs.declared.Step.{Step}
pub use Rattle.steps.specs.declared.Step.TheVariants.{Store as store, WriteBack as write_back, Fence as fence}

-- "A step is a store of one word at a place, a write-back of one line, or a fence." A place is the number of a word.
abbrev pub Steps : Type 0
Steps = ℕ → Step

-- "A leaf has 32 words of 8 bytes and four lines of 64 bytes": a line has eight words.
abbrev pub line : ℕ → ℕ
line p = p / 8

-- a store to the unit u, a write-back of the line l, a fence
abbrev pub stores_to : (ℕ → ℕ) → ℕ → Step → Bool
stores_to unit u (store p v) = eqb (unit p) u
stores_to unit u (write_back k) = false
stores_to unit u fence = false

abbrev pub writes_back : ℕ → Step → Bool
writes_back l (store p v) = false
writes_back l (write_back k) = eqb k l
writes_back l fence = false

abbrev pub is_fence : Step → Bool
is_fence (store p v) = false
is_fence (write_back k) = false
is_fence fence = true

-- the stores made to the unit u in the first n steps
abbrev pub made : (ℕ → ℕ) → Steps → ℕ → ℕ → ℕ
made unit s n u = count_below (λ i. stores_to unit u (s i)) n

-- "Words are never torn." A store that arrives puts a whole word into the memory; "fences and write-backs change no byte."
module _ {M : Type 0} (write : M → ℕ → ℕ → M) where
  abbrev pub land : Bool → Step → M → M
  land b (store p v) m = cond b (write m p v) m
  land b (write_back k) m = m
  land b fence m = m

-- "Stores to one line reach the memory in order, so after a cut a line holds its start plus some first few of its
-- stores." A store arrives where fewer were made to its unit before it (c) than arrived in all (a).
abbrev pub arrives : (ℕ → ℕ) → (ℕ → ℕ) → (ℕ → ℕ) → Step → Bool
arrives unit a c (store p v) = ltb (c (unit p)) (a (unit p))
arrives unit a c (write_back k) = true
arrives unit a c fence = true

module _ {M : Type 0} (write : M → ℕ → ℕ → M) where
  -- "Run takes the first n steps of a list over an image as the processor sees it."
  abbrev pub run : Steps → M → ℕ → M
  run s m zero = m
  run s m (suc n) = land write true (s n) (run s m n)

  -- "Cut does the same as the memory holds it, given for each line how many of its stores in the first n steps arrived."
  abbrev pub cut : (ℕ → ℕ) → Steps → (ℕ → ℕ) → M → ℕ → M
  cut unit s a m zero = m
  cut unit s a m (suc n) = land write (arrives unit a (made unit s n) (s n)) (s n) (cut unit s a m n)

-- "A store is settled once its line has had a write-back among the steps taken and a fence has come after both the store
-- and that write-back." The store is at i, to the line l; the fence is at k, one of the n steps taken; the write-back is
-- at j, before the fence. The rule says the rest: here, that the fence is after the store.
abbrev pub Rule : Type 0
Rule = ℕ → ℕ → ℕ → Bool

abbrev pub rule01 : Rule
rule01 i j k = ltb i k

unfoldable pub is_settled : Rule → Steps → ℕ → ℕ → ℕ → Bool
is_settled rule s n i l = any_below (λ k. both (is_fence (s k)) (any_below (λ j. both (writes_back l (s j)) (rule i j k)) k)) n

-- is step i a settled store to the unit u; and how many of the first n steps are one
abbrev pub settles_in : (ℕ → ℕ) → Rule → Steps → ℕ → ℕ → ℕ → Step → Bool
settles_in unit rule s n u i (store p v) = both (eqb (unit p) u) (is_settled rule s n i (line p))
settles_in unit rule s n u i (write_back k) = false
settles_in unit rule s n u i fence = false

abbrev pub settled : (ℕ → ℕ) → Rule → Steps → ℕ → ℕ → ℕ
settled unit rule s n u = count_below (λ i. settles_in unit rule s n u i (s i)) n

-- "Settled stores are always there. Lines are independent." A cut behind n steps can leave the arrivals a where no unit's
-- number is "below its settled or above its made stores". ("A call starts with all stores settled": the memory that a
-- cut starts from is whole.)
pub record Permitted (unit : ℕ → ℕ) (rule : Rule) (s : Steps) (n : ℕ) (a : ℕ → ℕ) : Type 0 where
  pub least : (u : ℕ) → settled unit rule s n u ≤ a u
  pub most : (u : ℕ) → a u ≤ made unit s n u

-- "A line write is a write-back step, a word write a store step": how many of the first n steps are one.
abbrev pub is_line_write : Step → Bool
is_line_write (store p v) = false
is_line_write (write_back k) = true
is_line_write fence = false

abbrev pub is_word_write : Step → Bool
is_word_write (store p v) = true
is_word_write (write_back k) = false
is_word_write fence = false

abbrev pub line_writes : Steps → ℕ → ℕ
line_writes s n = count_below (λ i. is_line_write (s i)) n

abbrev pub word_writes : Steps → ℕ → ℕ
word_writes s n = count_below (λ i. is_word_write (s i)) n
