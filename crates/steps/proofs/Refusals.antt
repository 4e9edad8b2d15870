-- What a table of refusals answers.
-- A call's refusals are a list of numbers, each with the condition under which it is "given exactly", in document 01's order.
use Rattle.std.specs.Prelude.{ℕ, ◌<◌, Bool, true, false, cond, ◌≡◌, refl}
use Rattle.std.proofs.Common.{arith, ap}

-- ---- laws

-- a row whose condition holds gives its number, ..
pub row_given : {given : Bool} (number others : ℕ) → given ≡ true → cond given number others ≡ number
row_given number others e = ap (λ (b : Bool). cond b number others) e

-- .. one whose condition does not hold leaves it to the others, ..
pub row_left : {given : Bool} (number others : ℕ) → given ≡ false → cond given number others ≡ others
row_left number others e = ap (λ (b : Bool). cond b number others) e

-- .. and a call that is accepted has passed its first row, and the others
pub row_passed : (number : ℕ) (given : Bool) (others : ℕ) → 0 < number → cond given number others ≡ 0
    → (given ≡ false) × (others ≡ 0)
row_passed number true others h e = absurd (omega arith)
row_passed number false others h e = (refl, e)
