-- Tables with a number for each line, as code keeps them while it takes the steps: the stores made to a line so far, and
-- whether it had a write-back. So each step costs the same, however many there are.
use Rattle.std.specs.Prelude.{ℕ, ◌+◌, ◌<◌, ◌≤◌, List, ◌≡◌, set}
use Rattle.std.proofs.Math.ListN.{length, get_or}
use Rattle.words.specs.Bools.{bit}
use Rattle.steps.specs.Model.{Steps, line, made}
use Rattle.steps.specs.LastFence.{had_back}
use Rattle.steps.specs.declared.Step.{Step}
use Rattle.steps.specs.declared.Step.TheVariants.{Store as store, WriteBack as write_back, Fence as fence}

-- a table after a step: one more for the line of a store, 1 for the line of a write-back
abbrev pub counted : Step → List ℕ → List ℕ
counted (store p v) t = set t (line p) (get_or t (line p) 0 + 1)
counted (write_back k) t = t
counted fence t = t

abbrev pub marked : Step → List ℕ → List ℕ
marked (store p v) t = t
marked (write_back k) t = set t k 1
marked fence t = t

-- nothing counted yet
abbrev pub Zero : List ℕ → Type 0
Zero t = (l : ℕ) → get_or t l 0 ≡ 0

-- the stores made in the first n steps, the lines that had a write-back in them
abbrev pub Tally : Steps → ℕ → List ℕ → Type 0
Tally s n t = (l : ℕ) → l < length t → get_or t l 0 ≡ made line s n l

abbrev pub Backs : Steps → ℕ → List ℕ → Type 0
Backs s n t = (l : ℕ) → l < length t → get_or t l 0 ≡ bit (had_back s n l)

-- no number of a table is above c
abbrev pub AtMost : ℕ → List ℕ → Type 0
AtMost c t = (l : ℕ) → get_or t l 0 ≤ c
