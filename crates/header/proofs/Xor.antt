-- The exclusive-or is associative; the toolchain's library has its other laws.
use Rattle.std.specs.Prelude.{◌≡◌, refl, ℕ, zero, suc, ◌+◌, ◌*◌, ◌/◌, ◌%◌, ◌<◌}
use Rattle.std.proofs.Common.{ap, ap₂, sym, ◌∙◌, arith}
use Rattle.std.proofs.Math.Arith.{bin_ind}
use Rattle.std.specs.Int.Bits.{bit_xor, differ, xor_step, xor_zero_l}

-- ---- of two digits

differ_lt : (p q : ℕ) → p < 2 → q < 2 → differ p q < 2
differ_lt zero q hp hq = hq
differ_lt (suc zero) zero hp hq = hp
differ_lt (suc zero) (suc zero) hp hq = omega arith
differ_lt (suc zero) (suc (suc q)) hp hq = omega arith
differ_lt (suc (suc p)) q hp hq = omega arith

differ_assoc : (p q r : ℕ) → p < 2 → q < 2 → r < 2 → differ (differ p q) r ≡ differ p (differ q r)
differ_assoc zero q r hp hq hr = refl
differ_assoc (suc zero) zero r hp hq hr = refl
differ_assoc (suc zero) (suc zero) zero hp hq hr = refl
differ_assoc (suc zero) (suc zero) (suc zero) hp hq hr = refl
differ_assoc (suc zero) (suc zero) (suc (suc r)) hp hq hr = omega arith
differ_assoc (suc zero) (suc (suc q)) r hp hq hr = omega arith
differ_assoc (suc (suc p)) q r hp hq hr = omega arith

-- ---- of two numbers

half : (x y : ℕ) → bit_xor x y / 2 ≡ bit_xor (x / 2) (y / 2)
half x y = ap (λ (n : ℕ). n / 2) (xor_step x y) ∙ omega (arith, differ_lt (x % 2) (y % 2) (omega arith) (omega arith))

odd : (x y : ℕ) → bit_xor x y % 2 ≡ differ (x % 2) (y % 2)
odd x y = ap (λ (n : ℕ). n % 2) (xor_step x y) ∙ omega (arith, differ_lt (x % 2) (y % 2) (omega arith) (omega arith))

pub xor_assoc : (a b c : ℕ) → bit_xor (bit_xor a b) c ≡ bit_xor a (bit_xor b c)
xor_assoc a =
    bin_ind (λ (n : ℕ). (b c : ℕ) → bit_xor (bit_xor n b) c ≡ bit_xor n (bit_xor b c))
    (λ b c. ap (λ (x : ℕ). bit_xor x c) (xor_zero_l b) ∙ sym (xor_zero_l (bit_xor b c)))
    (λ n ih b c.
    xor_step (bit_xor n b) c
    ∙ ap₂ (λ (x y : ℕ). x * 2 + y)
    (ap (λ (x : ℕ). bit_xor x (c / 2)) (half n b) ∙ ih (b / 2) (c / 2) ∙ ap (λ (x : ℕ). bit_xor (n / 2) x) (sym (half b c)))
    (ap (λ (x : ℕ). differ x (c % 2)) (odd n b)
    ∙ differ_assoc (n % 2) (b % 2) (c % 2) (omega arith) (omega arith) (omega arith)
    ∙ ap (λ (x : ℕ). differ (n % 2) x) (sym (odd b c)))
    ∙ sym (xor_step n (bit_xor b c)))
    a
