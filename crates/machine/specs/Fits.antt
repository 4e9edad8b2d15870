-- What a call knows that has passed the refusals 1 and 7: its steps' stores are inside the image, which has z bytes.
use Rattle.std.specs.Prelude.{ℕ, ◌+◌, ◌*◌, ◌%◌, ◌<◌, ◌≤◌, true, List, ◌≡◌, length}
use Rattle.steps.specs.Model.{line}
use Rattle.steps.specs.Settling.{EachStore}
use Rattle.steps.specs.declared.Step.{Step}
use Rattle.steps.specs.declared.Step.TheVariants.{Store as store, WriteBack as write_back, Fence as fence}
use Rattle.steps.specs.Encoding.{step_at, formed_at}

abbrev pub Fits : ℕ → Step → Type 0
Fits z (store p v) = 8 * p + 8 ≤ z
Fits z (write_back k) = Unit {0}
Fits z fence = Unit {0}

pub record Passed (z : ℕ) (list : List ℕ) (n : ℕ) : Type 0 where
  pub some : 0 < z
  pub small : z ≤ 65536
  pub whole : z % 256 ≡ 0
  pub few : n ≤ 56
  pub long : 2 * n ≤ length list
  pub formed : (i : ℕ) → i < n → formed_at z list i ≡ true

-- a list whose first n steps can be taken, their lines being among those that an image can have
pub record Taken (list : List ℕ) (n : ℕ) : Type 0 where
  pub few : n ≤ 56
  pub long : 2 * n ≤ length list
  pub lined : EachStore (step_at list) n (λ i p v. line p < 1024)
