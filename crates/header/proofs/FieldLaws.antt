-- What replacing a run of bits changes and leaves, and that shifts compute it.
use Rattle.std.specs.Prelude.{◌≡◌, ℕ, ◌+◌, ◌-◌, ◌*◌, ◌/◌, ◌%◌, ◌^◌, ◌≤◌, ◌<◌}
use Rattle.std.proofs.Common.{sym, ap, ◌∙◌, le_trans, one-mul, mod-lt, add_assoc, mul_assoc, add-mul, arith, lit<}
use Rattle.std.proofs.Math.Nat.{mod-le}
use Rattle.std.proofs.Math.Decide.{dec_lt}
use lib.Pow.{shl_exact, pow_pos, pow-add, high, low, shr-shr, shr_lt, mod-mod-pow, mod-pow-add, split}
use lib.Pow
use Rattle.std.proofs.Math.Arith.{digits_lt}
use Rattle.header.specs.Fields.{field, patched}

pub field_lt : (n p w : ℕ) → field n p w < 2 ^ w
unfolding field
field_lt n p w = mod-lt (n / 2 ^ p) (pow_pos w)

-- what stands below the end of the run is less than the end
low_part : (n p w d : ℕ) → d < 2 ^ w → d * 2 ^ p + n % 2 ^ p < 2 ^ (w + p)
low_part n p w d h = rw (pow-add 2 w p) (digits_lt h (mod-lt n (pow_pos p)))

patched_shr : (n p w d : ℕ) → d < 2 ^ w → patched n p w d / 2 ^ (w + p) ≡ n / 2 ^ (w + p)
unfolding patched
patched_shr n p w d h = high (n / 2 ^ (w + p)) (w + p) (low_part n p w d h)

-- the number with d in the place, as its upper part shifted
patched_split : (n p w d : ℕ) → patched n p w d ≡ (n / 2 ^ (w + p) * 2 ^ w + d) * 2 ^ p + n % 2 ^ p
unfolding patched
patched_split n p w d =
    rw (add-mul, mul_assoc, ← pow-add 2 w p) (sym (add_assoc (n / 2 ^ (w + p) * 2 ^ (w + p)) (d * 2 ^ p) (n % 2 ^ p)))

pub field_patched : (n p w d : ℕ) → d < 2 ^ w → field (patched n p w d) p w ≡ d
unfolding field
field_patched n p w d h =
    rw (patched_split n p w d, high (n / 2 ^ (w + p) * 2 ^ w + d) p (mod-lt n (pow_pos p))) (low (n / 2 ^ (w + p)) w h)

pub field_patched_above : (n p w d q v : ℕ) → d < 2 ^ w → p + w ≤ q → field (patched n p w d) q v ≡ field n q v
unfolding field
field_patched_above n p w d q v h b =
    let e : q ≡ (w + p) + (q - (w + p)) = omega arith in
    rw (e, ← shr-shr (patched n p w d) (w + p) (q - (w + p)), ← shr-shr n (w + p) (q - (w + p)), patched_shr n p w d h)

-- a field is of the digits below its end alone
pub field_of_low : (m n k p w : ℕ) → p + w ≤ k → m % 2 ^ k ≡ n % 2 ^ k → field m p w ≡ field n p w
unfolding field
field_of_low m n k p w b same =
    rw (← lib.Pow.field m w p, ← lib.Pow.field n w p)
    (ap (λ (x : ℕ). x / 2 ^ p) (sym (cut m) ∙ ap (λ (x : ℕ). x % 2 ^ (w + p)) same ∙ cut n))
  where
    cut : (x : ℕ) → x % 2 ^ k % 2 ^ (w + p) ≡ x % 2 ^ (w + p)
    cut x = let e : k ≡ (k - (w + p)) + (w + p) = omega arith in rw e (mod-mod-pow x (k - (w + p)) (w + p))

pub field_patched_below : (n p w d q v : ℕ) → q + v ≤ p → field (patched n p w d) q v ≡ field n q v
field_patched_below n p w d q v b =
    field_of_low (patched n p w d) n p q v b (rw (patched_split n p w d) (low (n / 2 ^ (w + p) * 2 ^ w + d) p (mod-lt n (pow_pos p))))

-- a field that is apart from the one that is patched, on either side
pub field_apart : (n p w d q v : ℕ) → d < 2 ^ w → (q < p → q + v ≤ p) → (p ≤ q → p + w ≤ q) → field (patched n p w d) q v ≡ field n q v
field_apart n p w d q v h below above = by (dec_lt q p)
  where
    by : Dec (q < p) → field (patched n p w d) q v ≡ field n q v
    by (yes b) = field_patched_below n p w d q v (below b)
    by (no b) = field_patched_above n p w d q v h (above (omega arith))

-- a field patched back where it was
pub patched_self : (n p w : ℕ) → patched n p w (field n p w) ≡ n
unfolding patched field
patched_self n p w = rw (← mod-pow-add n w p) (split n (w + p))

-- as it is computed: the old field taken away, and the new one added
pub field_le : (n p w : ℕ) → field n p w * 2 ^ p ≤ n
unfolding patched
field_le n p w = omega (arith, patched_self n p w)

pub patched_code : (n p w d : ℕ) → n - field n p w * 2 ^ p + d * 2 ^ p ≡ patched n p w d
unfolding patched
patched_code n p w d = omega (arith, patched_self n p w)

pub patched_lt : (n p w d k : ℕ) → n < 2 ^ k → w + p ≤ k → d < 2 ^ w → patched n p w d < 2 ^ k
unfolding patched
patched_lt n p w d k hn b h =
    let e : k ≡ (k - (w + p)) + (w + p) = omega arith in
    rw (e, pow-add 2 (k - (w + p)) (w + p))
    (digits_lt (shr_lt (k - (w + p)) (w + p) (rw (← e) hn)) (low_part n p w d h))

-- shifts to the left that lose no bit
pub one_shl : (w : ℕ) → w < 64 → 1 * 2 ^ w % 2 ^ 64 ≡ 2 ^ w
one_shl w h = shl_exact {a = 1} 1 w 64 (lit< tt) (omega arith) ∙ one-mul (2 ^ w)

module _ (n p w d r : ℕ) (small : n < 2 ^ 64) (fits : w + p ≤ 64) (less : d < 2 ^ w) (got : r ≡ field n p w) where
  pub shl_le : r * 2 ^ p % 2 ^ 64 ≤ n
  shl_le = rw got (le_trans (mod-le (field n p w * 2 ^ p) (2 ^ 64)) (field_le n p w))

  pub shl_patched : n - r * 2 ^ p % 2 ^ 64 + d * 2 ^ p % 2 ^ 64 ≡ patched n p w d
  shl_patched = rw (got, shl_exact w p 64 less fits, shl_exact w p 64 (field_lt n p w) fits) (patched_code n p w d)

  pub shl_fits : n - r * 2 ^ p % 2 ^ 64 + d * 2 ^ p % 2 ^ 64 < 2 ^ 64
  shl_fits = rw shl_patched (patched_lt n p w d 64 small fits less)
