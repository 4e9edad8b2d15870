-- Two tests in one, and ways of going by a test's value, for all crates above.
use Rattle.std.specs.Prelude.{◌≡◌, refl, Bool, true, false, cond, ◌||◌, ◌⊎◌, ℕ, ◌≤◌}
use Rattle.std.proofs.Common.{sym, inl, inr, arith}

-- both tests hold
abbrev pub both : Bool → Bool → Bool
both true b = b
both false b = false

-- 1 where a test holds, else 0
abbrev pub bit : Bool → ℕ
bit b = cond b 1 0

-- by the value of a test, with the equation
pub by_test : (P : Bool → Type 0) (b : Bool) → (b ≡ true → P true) → (b ≡ false → P false) → P b
by_test P true f g = f refl
by_test P false f g = g refl

-- where a hypothesis says two constructors equal, `cc` has 0 ≡ 1
pub never : {A : Type 0} → ◌≡◌ {A = ℕ} 0 1 → A
never e = absurd (omega arith)

pub differ : {A : Type 0} → ◌≡◌ {A = Bool} true false → A
differ e = never cc

pub not_so : (b : Bool) → (b ≡ true → ⊥) → b ≡ false
not_so true f = absurd (f refl)
not_so false f = refl

-- two tests that follow from each other
pub same_test : (b c : Bool) → (b ≡ true → c ≡ true) → (c ≡ true → b ≡ true) → b ≡ c
same_test true c f g = sym (f refl)
same_test false true f g = g refl
same_test false false f g = refl

pub bit_most : (b : Bool) → bit b ≤ 1
bit_most true = omega arith
bit_most false = omega arith

-- ---- two tests in one

pub both_none : (b : Bool) → both b false ≡ false
both_none true = refl
both_none false = refl

pub both_true : (a b : Bool) → both a b ≡ true → (a ≡ true) × (b ≡ true)
both_true true b e = (refl, e)
both_true false b e = differ (sym e)

pub or_true : (b c : Bool) → b || c ≡ true → (b ≡ true) ⊎ (c ≡ true)
or_true true c e = inl refl
or_true false c e = inr e

pub or_right : (b c : Bool) → c ≡ true → b || c ≡ true
or_right true c e = refl
or_right false c e = e

pub or_none : (b : Bool) → b || false ≡ b
or_none true = refl
or_none false = refl

pub or_false : (b c : Bool) → b || c ≡ false → (b ≡ false) × (c ≡ false)
or_false true c e = differ e
or_false false c e = (refl, e)
