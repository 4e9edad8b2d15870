-- Refusal 10 as code finds it: the arrivals above the made stores by one pass over the arrivals, and those below the
-- settled ones by one over the steps before the last fence, where a store is settled if its line had a write-back.
use Prim.Native.Nat.{ℕ}
use Rattle.std.proofs.Math.Bool.{Bool}
use Rattle.std.specs.Prelude.{false, not, List, get_or, ltb, leb, eqb}
use Rattle.words.specs.Bools.{both}
use Rattle.words.specs.Below.{any_below}
use Rattle.steps.specs.Model.{Steps, line, made}
use Rattle.steps.specs.declared.Step.{Step}
use Rattle.steps.specs.declared.Step.TheVariants.{Store as store, WriteBack as write_back, Fence as fence}
use Rattle.steps.specs.LastFence.{last_fence, had_back}
use Rattle.steps.specs.Encoding.{step_at}
use Rattle.machine.specs.Taking.{arrived}

-- more stores of the line arrived than were made
abbrev pub is_above : List ℕ → ℕ → List ℕ → ℕ → Bool
is_above list n arrivals l = ltb (made line (step_at list) n l) (arrived arrivals l)

-- step i is a store that the fence at `last` settles, and did not arrive
abbrev pub is_lost : Steps → ℕ → List ℕ → ℕ → Step → Bool
is_lost s last arrivals i (store p v) = both (had_back s last (line p)) (leb (arrived arrivals (line p)) (made line s i (line p)))
is_lost s last arrivals i (write_back k) = false
is_lost s last arrivals i fence = false

abbrev pub lost_at : List ℕ → ℕ → List ℕ → ℕ → Bool
lost_at list last arrivals i = is_lost (step_at list) last arrivals i (step_at list i)

unfoldable pub lost : List ℕ → ℕ → List ℕ → Bool
lost list n arrivals = any_below (lost_at list (last_fence (step_at list) n) arrivals) (last_fence (step_at list) n)

-- the same by the tables
abbrev pub lost_by : List ℕ → List ℕ → List ℕ → Step → Bool
lost_by backs seen arrivals (store p v) =
    both (not (eqb (get_or backs (line p) 0) 0)) (leb (arrived arrivals (line p)) (get_or seen (line p) 0))
lost_by backs seen arrivals (write_back k) = false
lost_by backs seen arrivals fence = false
