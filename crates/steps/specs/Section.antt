-- A section is a run of steps whose last store decides. What a cut of it can leave is the section theorem, in proofs/Section.
use Rattle.std.specs.Prelude.{ℕ, ◌<◌, ◌≤◌, ◌≡◌}
use Rattle.steps.specs.Model.{store, Steps, line}
use Rattle.steps.specs.Model.{Rule}
use Rattle.steps.specs.Settling.{EachStore, Settled, AllSettled}

-- The steps below N are a section. Its last store is the switch. The stores before it are unused ones, of a place and a
-- value in U, and those outside its unit are settled before it. All are settled at the section's end.
pub record Section (unit : ℕ → ℕ) (rule : Rule) (U : ℕ → ℕ → Type 0) (s : Steps) (N : ℕ) : Type 0 where
  pub last : ℕ
  pub place : ℕ
  pub value : ℕ
  pub ends : last < N
  pub switch : s last ≡ store place value
  pub unused : EachStore s last (λ i p v. U p v)
  pub before : EachStore s last (λ i p v. (unit p ≡ unit place → ⊥) → Settled rule s last i (line p))
  pub quiet : EachStore s N (λ i p v. i ≤ last)
  pub settled : AllSettled rule s N
