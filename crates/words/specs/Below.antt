-- Three questions about the numbers below n: does a test hold at one of them, at how many, and which is the first.
use Rattle.std.specs.Prelude.{◌≡◌, ℕ, zero, suc, ◌+◌, ◌<◌, Bool, true, false, cond, ◌||◌, Option, Some, None}

-- the test holds at one of them
unfoldable pub any_below : (ℕ → Bool) → ℕ → Bool
any_below f zero = false
any_below f (suc n) = any_below f n || f n

-- at how many of them it holds
unfoldable pub count_below : (ℕ → Bool) → ℕ → ℕ
count_below f zero = 0
count_below f (suc n) = count_below f n + cond (f n) 1 0

-- the first of them at which it holds
pub record IsFirst (f : ℕ → Bool) (n r : ℕ) : Type 0 where
  pub inside : r < n
  pub holds : f r ≡ true
  pub before : (t : ℕ) → t < r → f t ≡ false

-- .. and None where it holds at none
abbrev pub FirstBelow : (ℕ → Bool) → ℕ → Option ℕ → Type 0
FirstBelow f n (Some r) = IsFirst f n r
FirstBelow f n None = (t : ℕ) → t < n → f t ≡ false
