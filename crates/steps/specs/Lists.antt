-- Lists of steps: what holds of each step, and what a whole list leaves.
use Rattle.std.specs.Prelude.{ℕ, true, List, [], ◌∷◌}
use Rattle.steps.specs.Model.{Step, land}

-- every step of a list
abbrev pub Each : (Step → Type 0) → List Step → Type 0
Each P [] = Unit {0}
Each P (x ∷ l) = P x × Each P l

-- a whole list run from its head
module _ {M : Type 0} (write : M → ℕ → ℕ → M) where
  abbrev pub run_all : List Step → M → M
  run_all [] m = m
  run_all (x ∷ l) m = run_all l (land write true x m)
