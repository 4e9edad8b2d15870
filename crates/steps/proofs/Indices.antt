-- Ways of going by an index.
use Rattle.std.specs.Prelude.{ℕ, zero, suc, ◌+◌, ◌-◌, ◌<◌, ◌≤◌, ◌≡◌}
use Rattle.std.proofs.Common.{add-suc, add-zero, arith}
use Rattle.std.proofs.Math.Decide.{dec_lt}

-- an index is below k, or k and so many more
pub by_parts : (k : ℕ) (P : ℕ → Type 0) → ((i : ℕ) → i < k → P i) → ((d : ℕ) → P (k + d)) → (i : ℕ) → P i
by_parts k P f g i = elim (dec_lt i k) [ yes h ↦ f i h | no h ↦ let q : i ≡ k + (i - k) = omega arith in rw q (g (i - k)) ]

-- induction from i up to j
climb : (P : ℕ → Type 0) (i d : ℕ) → P i → ((n : ℕ) → i ≤ n → n < i + d → P n → P (suc n)) → P (i + d)
climb P i zero b f = rw add-zero b
climb P i (suc d) b f =
    rw add-suc (f (i + d) (omega arith) (omega arith) (climb P i d b (λ n l k. f n l (omega arith))))

pub grow : (P : ℕ → Type 0) (i j : ℕ) → i ≤ j → P i → ((n : ℕ) → i ≤ n → n < j → P n → P (suc n)) → P j
grow P i j h b f = let e : j ≡ i + (j - i) = omega arith in rw e (climb P i (j - i) b (λ n l k. f n l (omega arith)))
