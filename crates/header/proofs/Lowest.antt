-- The lowest bit of a word that is 1, by the zeros at its end; and the lowest that is 0, by those of what it lacks to be all ones.
use Rattle.std.specs.Prelude.{◌≡◌, ◌≢◌, refl, false, not, eqb, ℕ, zero, suc, ◌-◌, ◌/◌, ◌%◌, ◌^◌, ◌<◌, ◌≤◌, Bool, true, Option}
use Rattle.std.proofs.Common.{◌∙◌, sym, div-one, mul_comm, pow-suc, arith}
use Rattle.std.proofs.Math.Decide.{ℕ_discrete}
use Rattle.std.proofs.Math.Nat.{div-div-eq-div-mul, zero-div}
use Rattle.std.specs.Int.Count.{count_trailing_zeros}
use Rattle.words.specs.Below.{IsFirst, FirstBelow}
use Rattle.words.specs.BelowLaws.{first_cong}
use Rattle.header.specs.Fields.{field, is_one}
use Rattle.header.proofs.FieldLaws.{field_lt}

-- the first number below n at which a test holds, or n where it holds at none
pub record FirstUpTo (f : ℕ → Bool) (n r : ℕ) : Type 0 where
  pub most : r ≤ n
  pub below : (t : ℕ) → t < r → f t ≡ false
  pub at : r < n → f r ≡ true

first_bit : (w : ℕ) → field w 0 1 ≡ w % 2
unfolding field
first_bit w = rw (div-one w) refl

next_bit : (w t : ℕ) → field w (suc t) 1 ≡ field (w / 2) t 1
unfolding field
next_bit w t = rw (pow-suc 2 t, mul_comm (2 ^ t) 2, ← div-div-eq-div-mul w 2 (2 ^ t)) refl

-- the zeros at the end of a word, of its k lowest bits, go to the lowest 1 of these, or are all of them
pub lowest_one : (k w : ℕ) → FirstUpTo (is_one w) k (count_trailing_zeros k w)
unfolding count_trailing_zeros
lowest_one zero w = record { most = omega arith; below = λ t b. absurd (omega arith); at = λ b. absurd (omega arith) }
lowest_one (suc k) w = elim (ℕ_discrete (w % 2) 1) [
  | yes e ↦ rw e (record { most = omega arith; below = λ t b. absurd (omega arith); at = λ b. rw (first_bit w, e) refl })
  | no ne ↦ let e : w % 2 ≡ 0 = omega arith in rw e (more (lowest_one k (w / 2)) e)
]
  where
    more : {r : ℕ} → FirstUpTo (is_one (w / 2)) k r → w % 2 ≡ 0 → FirstUpTo (is_one w) (suc k) (suc r)
    more {r} z e = record {
      most = omega (arith, z.most);
      below = λ t b. zeros t b;
      at = λ b. rw (next_bit w r) (z.at (omega arith));
    }
      where
        zeros : (t : ℕ) → t < suc r → is_one w t ≡ false
        zeros zero b = rw (first_bit w, e) refl
        zeros (suc t) b = rw (next_bit w t) (z.below t (omega arith))

-- those of a word that is not 0 are not all of it
some_one : (k w : ℕ) → w < 2 ^ k → w ≢ 0 → count_trailing_zeros k w < k
unfolding count_trailing_zeros
some_one zero w h nz = absurd (omega arith)
some_one (suc k) w h nz = elim (ℕ_discrete (w % 2) 1) [
  | yes e ↦ rw e (omega arith)
  | no ne ↦
      let e : w % 2 ≡ 0 = omega arith in
      let i = some_one k (w / 2) (omega (arith, pow-suc 2 k)) (λ z. nz (omega arith)) in
      rw e (omega (arith, i))
]

pub ones : (k w : ℕ) → w < 2 ^ k → w ≢ 0 → IsFirst (is_one w) k (count_trailing_zeros k w)
ones k w h nz =
    let o = lowest_one k w in
    let i = some_one k w h nz in
    record { inside = i; holds = o.at i; before = o.below }

-- so the code's two answers: a bit below 64, or all 64
pub first_one : (n : ℕ) → count_trailing_zeros 64 n < 64 → IsFirst (is_one n) 64 (count_trailing_zeros 64 n)
first_one n h = let o = lowest_one 64 n in record { inside = h; holds = o.at h; before = o.below }

pub no_one : (n t : ℕ) → (count_trailing_zeros 64 n < 64 → ⊥) → t < 64 → is_one n t ≡ false
no_one n t h b = (lowest_one 64 n).below t (omega arith)

pub no_ones : (n t : ℕ) → n ≡ 0 → is_one n t ≡ false
unfolding field
no_ones n t e = rw (e, zero-div (2 ^ t)) refl

-- what a word lacks to be all ones has the other bits
other_bit : (k w t : ℕ) → w < 2 ^ k → t < k → field (2 ^ k - 1 - w) t 1 ≡ 1 - field w t 1
other_bit zero w t h b = absurd (omega arith)
other_bit (suc k) w zero h b = omega (arith, pow-suc 2 k, first_bit (2 ^ suc k - 1 - w), first_bit w)
other_bit (suc k) w (suc t) h b =
    let half : (2 ^ suc k - 1 - w) / 2 ≡ 2 ^ k - 1 - w / 2 = omega (arith, pow-suc 2 k) in
    rw (next_bit (2 ^ suc k - 1 - w) t, half, next_bit w t) (other_bit k (w / 2) t (omega (arith, pow-suc 2 k)) (omega arith))

-- a bit is 1 there where it is 0 here
other : (x : ℕ) → x < 2 → eqb (1 - x) 1 ≡ not (eqb x 1)
other zero b = refl
other (suc zero) b = refl
other (suc (suc x)) b = absurd (omega arith)

pub other_one : (k w t : ℕ) → w < 2 ^ k → t < k → is_one (2 ^ k - 1 - w) t ≡ not (is_one w t)
other_one k w t h b = rw (other_bit k w t h b) (other (field w t 1) (field_lt w t 1))

-- .. so their zeros go to the lowest 0
pub lowest_zero : (k w : ℕ) → w < 2 ^ k → FirstUpTo (λ t. not (is_one w t)) k (count_trailing_zeros k (2 ^ k - 1 - w))
lowest_zero k w h =
    let o = lowest_one k (2 ^ k - 1 - w) in
    record {
      most = o.most;
      below = λ t b. sym (other_one k w t h (omega (arith, o.most))) ∙ o.below t b;
      at = λ b. sym (other_one k w (count_trailing_zeros k (2 ^ k - 1 - w)) h b) ∙ o.at b;
    }

pub zeros : (n : ℕ) (r : Option ℕ) → n < 2 ^ 64 → FirstBelow (is_one (2 ^ 64 - 1 - n)) 64 r → FirstBelow (λ t. not (is_one n t)) 64 r
zeros n r h z = first_cong (is_one (2 ^ 64 - 1 - n)) (λ t. not (is_one n t)) 64 r (λ t b. other_one 64 n t h b) z
