-- What is settled, as a proof handles it: with the write-back and the fence that settle a store.
use Rattle.std.specs.Prelude.{ℕ, ◌<◌, true, ◌≡◌}
use Rattle.steps.specs.Model.{store, write_back, fence, Steps, line}
use Rattle.steps.specs.Model.{Rule}

-- of each store of the first n steps: its index, its place and its value
abbrev pub EachStore : Steps → ℕ → (ℕ → ℕ → ℕ → Type 0) → Type 0
EachStore s n Q = (i p v : ℕ) → i < n → s i ≡ store p v → Q i p v

-- the store at i, to the line l, is settled in the first n steps
pub record Settled (rule : Rule) (s : Steps) (n i l : ℕ) : Type 0 where
  pub back : ℕ
  pub flush : ℕ
  pub written : s back ≡ write_back l
  pub fenced : s flush ≡ fence
  pub ordered : rule i back flush ≡ true
  pub behind : back < flush
  pub taken : flush < n

-- and so is every store of the first n steps
abbrev pub AllSettled : Rule → Steps → ℕ → Type 0
AllSettled rule s n = EachStore s n (λ i p v. Settled rule s n i (line p))
