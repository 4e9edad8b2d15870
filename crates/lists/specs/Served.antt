-- What is promised of a list, in words: demand 2 (every store settled at its end, the image then sound with the entries
-- asked for, and at every cut sound with the entries before or after) and the rows of demand 3 (what the steps taken
-- cost, with the potential of the image that is left). To be believed.
use Rattle.std.specs.Prelude.{ℕ, ◌+◌, ◌*◌, ◌^◌, ◌≤◌, ◌<◌, List, ◌≡◌, ◌⊎◌, length}
use Rattle.words.specs.Update.{upd}
use Rattle.leaf.specs.Leaf.{view}
use Rattle.steps.specs.declared.Step.{Step}
use Rattle.steps.specs.declared.Step.TheVariants.{Store as store, WriteBack as write_back, Fence as fence}
use Rattle.steps.specs.Model.{line, run, cut, Rule, Permitted, line_writes, word_writes}
use Rattle.steps.specs.Settling.{AllSettled}
use Rattle.steps.specs.Encoding.{steps_of}
use Rattle.steps.specs.Lists.{Each}
use Rattle.image.specs.Map.{Entry}
use Rattle.image.specs.Chain.{Sound}
use Rattle.image.specs.Potential.{phi}
use Rattle.image.specs.Entries.{list_of}

-- "tell steps, line writes and word writes": steps are the list's length, and the others are counted from it too
abbrev pub lines_of : List Step → ℕ
lines_of l = line_writes (steps_of l) (length l)

abbrev pub words_of : List Step → ℕ
words_of l = word_writes (steps_of l) (length l)

-- all words of an image, or of a list's stores, are words of 64 bits
abbrev pub Small : (ℕ → ℕ) → Type 0
Small w = (p : ℕ) → w p < 2 ^ 64

-- a step of an image of N blocks: N times 32 words and 4 lines
abbrev pub Proper : ℕ → Step → Type 0
Proper N (store p v) = (p < 32 * N) × (v < 2 ^ 64)
Proper N (write_back k) = k < 4 * N
Proper N fence = Unit {0}

-- the image x is sound, its entries are m, and its potential with a cost is within a bound
pub record Left (N : ℕ) (x : ℕ → ℕ) (m : List Entry) (cost bound : ℕ) : Type 0 where
  pub chain : List ℕ
  pub sound : Sound (view x) N chain
  pub list : list_of (view x) chain ≡ m
  pub within : cost + phi (view x) chain ≤ bound

-- Demand 3, in sevenths of a line write: what a line write costs, and what a put, a set or del, and a cut call may cost
abbrev pub per_line : ℕ
per_line = 7

abbrev pub per_put : ℕ
per_put = 20

abbrev pub per_change : ℕ
per_change = 7

abbrev pub per_cut : ℕ
per_cut = 42

-- what the line writes among the first n steps cost
abbrev pub spent : List Step → ℕ → ℕ
spent l n = per_line * line_writes (steps_of l) n

-- The list l brings the image w, sound with the chain bs, to the entries m. Run whole it costs at most `price` more
-- than it takes from the potential.
pub record Served (rule : Rule) (w : ℕ → ℕ) (N : ℕ) (bs : List ℕ) (l : List Step) (m : List Entry) (price : ℕ) : Type 0 where
  pub proper : Each (Proper N) l
  pub settled : AllSettled rule (steps_of l) (length l)
  pub whole : Left N (run upd (steps_of l) w (length l)) m (spent l (length l)) (phi (view w) bs + price)
  pub cuts : (n : ℕ) (a : ℕ → ℕ) → n ≤ length l → Permitted line rule (steps_of l) n a
      → Left N (cut upd line (steps_of l) a w n) (list_of (view w) bs) (spent l n) (phi (view w) bs + per_cut)
      ⊎ Left N (cut upd line (steps_of l) a w n) m (spent l n) (phi (view w) bs + per_cut)
