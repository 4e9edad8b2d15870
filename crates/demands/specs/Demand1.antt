-- The refusals, for every call at once. "given exactly when"; "Order: 1, 2, 8, 3, 4, 5, 6 as they apply; for run and cut 1, 7,
-- 10. (..) An accepted call answers 0. A refusal tells 0 for every count and value and changes no buffer."
--
-- `Conditions` has each call's numbers in that order, with their sentences.
use Rattle.std.specs.Prelude.{◌≡◌, ◌≢◌, ◌↔◌, ℕ, ◌<◌}
use Rattle.image.specs.Chain.{All}
use Rattle.demands.specs.Calls.{Asked, Result}
use Rattle.demands.specs.Calls.{told, lent}
use Rattle.demands.specs.Conditions.{conditions, Given, NoneGiven}

-- ---- what is demanded

pub record Demanded (asked : Asked) (r : Result asked) : Type 0 where
  -- "given exactly when"
  pub refused : (n : ℕ) → 0 < n → ((told asked r).number ≡ n) ↔ Given n (conditions asked)
  -- "An accepted call answers 0."
  pub accepted : ((told asked r).number ≡ 0) ↔ NoneGiven (conditions asked)
  -- "A refusal tells 0 for every count and value and changes no buffer."
  pub nothing : (told asked r).number ≢ 0 → All (λ n. n ≡ 0) (told asked r).counts × ((told asked r).buffers ≡ lent asked)
