-- Runs of bits of a number.
use Rattle.std.specs.Prelude.{Bool, eqb, ℕ, ◌+◌, ◌*◌, ◌/◌, ◌%◌, ◌^◌}

-- the w bits from bit p on
unfoldable pub field : ℕ → ℕ → ℕ → ℕ
field n p w = n / 2 ^ p % 2 ^ w

-- the number with d in place of the w bits from bit p on: what stands above them, d, and what stands below
unfoldable pub patched : ℕ → ℕ → ℕ → ℕ → ℕ
patched n p w d = n / 2 ^ (w + p) * 2 ^ (w + p) + (d * 2 ^ p + n % 2 ^ p)

-- whether bit t is 1
abbrev pub is_one : ℕ → ℕ → Bool
is_one n t = eqb (field n t 1) 1
