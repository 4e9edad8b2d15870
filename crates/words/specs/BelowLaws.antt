-- Laws of the three questions about the numbers below n.
use Prim.Native.Nat.{ℕ, zero, suc, ◌+◌, ◌-◌, ◌<◌, ◌≤◌}
use Rattle.std.proofs.Math.Nat.{add-suc}
use Rattle.std.proofs.Common.{add-zero, add-one, sym, ◌∙◌}
use native.Mathlib.Omega.{arith}
use Rattle.std.proofs.Math.Decide.{dec_lt, ℕ_discrete}
use Rattle.std.specs.Prelude.{Bool, false, ◌||◌, ◌≡◌, Option, Some, None}
use Rattle.std.proofs.Math.Bool.{true}
use Rattle.std.proofs.Math.Path.{refl, ap}
use Rattle.words.specs.Below.{any_below, count_below, FirstBelow}
use Rattle.words.specs.Bools.{bit, bit_most, by_test, differ, not_so, or_right}
use Rattle.words.specs.Update.{upd, upd_same, upd_other}

-- ---- at one of them

module _ (f : ℕ → Bool) where
  pub any_make : (n i : ℕ) → i < n → f i ≡ true → any_below f n ≡ true
  unfolding any_below
  any_make zero i h e = absurd (omega arith)
  any_make (suc n) i h e =
      elim (dec_lt i n) [
        | yes l ↦ rw (any_make n i l e)
        | no l ↦ let q : n ≡ i = omega arith in or_right (any_below f n) (f n) (ap f q ∙ e)
      ]

  pub any_at : (n : ℕ) → any_below f n ≡ true → (i : ℕ) × (i < n) × (f i ≡ true)
  unfolding any_below
  any_at zero e = differ (sym e)
  any_at (suc n) e =
      by_test (λ b. b || f n ≡ true → (i : ℕ) × (i < suc n) × (f i ≡ true)) (any_below f n)
      (λ t x. let (i, h, y) = any_at n t in (i, omega arith, y))
      (λ t x. (n, omega arith, x))
      e

  -- at none of them
  pub any_none : (n i : ℕ) → any_below f n ≡ false → i < n → f i ≡ false
  any_none n i e h = not_so (f i) (λ y. differ (sym (any_make n i h y) ∙ e))

  pub none_make : (n : ℕ) → ((i : ℕ) → i < n → f i ≡ false) → any_below f n ≡ false
  unfolding any_below
  none_make zero h = refl
  none_make (suc n) h = rw (none_make n (λ i l. h i (omega arith))) (h n (omega arith))

  -- as a loop goes on: at none of the numbers below i, nor at i
  pub any_next : (i : ℕ) → any_below f i ≡ false → f i ≡ false → any_below f (i + 1) ≡ false
  unfolding any_below
  any_next i e h = rw (add-one i, e, h)

pub any_cong : (f g : ℕ → Bool) (n : ℕ) → ((i : ℕ) → i < n → f i ≡ g i) → any_below f n ≡ any_below g n
unfolding any_below
any_cong f g zero h = refl
any_cong f g (suc n) h = rw (h n (omega arith), any_cong f g n (λ i l. h i (omega arith)))

-- ---- at how many

pub count_most : (f : ℕ → Bool) (n : ℕ) → count_below f n ≤ n
unfolding count_below
count_most f zero = omega arith
count_most f (suc n) = omega (arith, count_most f n, bit_most (f n))

module _ (f : ℕ → Bool) where
  -- as a loop goes on
  pub count_next : (n i : ℕ) → n ≡ count_below f i → (r : ℕ) → r ≡ bit (f i) → n + r ≡ count_below f (i + 1)
  unfolding count_below
  count_next n i so_far r e = rw (add-one i, so_far, e)

  -- those of a first part and those of the rest
  pub count_from : (k n : ℕ) → count_below f (k + n) ≡ count_below f k + count_below (λ i. f (k + i)) n
  unfolding count_below
  count_from k zero = rw (add-zero k) (omega arith)
  count_from k (suc n) = rw add-suc (omega (arith, count_from k n))

  pub count_le : (i j : ℕ) → i ≤ j → count_below f i ≤ count_below f j
  count_le i j h = let e : j ≡ i + (j - i) = omega arith in omega (arith, ap (count_below f) e, count_from i (j - i))

  -- at none of them, and at all
  pub count_zero : (n : ℕ) → ((i : ℕ) → i < n → f i ≡ false) → count_below f n ≡ 0
  unfolding count_below
  count_zero zero h = refl
  count_zero (suc n) h = rw (count_zero n (λ i l. h i (omega arith)), h n (omega arith))

  pub count_none : (n : ℕ) → count_below f n ≡ 0 → (i : ℕ) → i < n → f i ≡ false
  unfolding count_below
  count_none n e i h = not_so (f i) (λ y. omega (arith, count_le (suc i) n h, ap bit y))

  pub count_all : (n : ℕ) → ((i : ℕ) → i < n → f i ≡ true) → count_below f n ≡ n
  unfolding count_below
  count_all zero h = refl
  count_all (suc n) h = rw (h n (omega arith)) (omega (arith, count_all n (λ i l. h i (omega arith))))

  pub count_less : (n i : ℕ) → i < n → f i ≡ false → count_below f n < n
  unfolding count_below
  count_less n i h e =
      let q : n ≡ suc i + (n - suc i) = omega arith in
      omega (
        arith,
        ap (count_below f) q,
        count_from (suc i) (n - suc i),
        ap bit e,
        count_most f i,
        count_most (λ j. f (suc i + j)) (n - suc i),
      )

  -- the number at which the test holds with c before it
  pub count_nth : (n c : ℕ) → c < count_below f n → (i : ℕ) × (i < n) × (f i ≡ true) × (count_below f i ≡ c)
  unfolding count_below
  count_nth zero c h = absurd (omega arith)
  count_nth (suc n) c h = go (dec_lt c (count_below f n)) (count_nth n c)
    where
      Nth : ℕ → Type 0
      Nth m = (i : ℕ) × (i < m) × (f i ≡ true) × (count_below f i ≡ c)

      go : Dec (c < count_below f n) → (c < count_below f n → Nth n) → Nth (suc n)
      go (yes l) ih = let (i, k, e, o) = ih l in (i, omega arith, e, o)
      go (no l) ih =
          by_test (λ b. c < count_below f n + bit b → Nth (suc n)) (f n)
          (λ e k. (n, omega arith, e, omega arith))
          (λ e k. absurd (omega arith))
          h

module _ (f g : ℕ → Bool) where
  pub count_cong : (n : ℕ) → ((i : ℕ) → i < n → f i ≡ g i) → count_below f n ≡ count_below g n
  unfolding count_below
  count_cong zero h = refl
  count_cong (suc n) h = rw (h n (omega arith), count_cong n (λ i l. h i (omega arith)))

  pub count_sub : (n : ℕ) → ((i : ℕ) → f i ≡ true → g i ≡ true) → count_below f n ≤ count_below g n
  unfolding count_below
  count_sub zero h = omega arith
  count_sub (suc n) h =
      by_test (λ b. count_below f n + bit b ≤ count_below g (suc n)) (f n)
      (λ e. rw (h n e) (omega (arith, count_sub n h)))
      (λ e. omega (arith, count_sub n h))

-- one answer changed
pub count_upd : (f : ℕ → Bool) (s : ℕ) (x : Bool) (n : ℕ) → s < n → count_below (upd f s x) n + bit (f s) ≡ count_below f n + bit x
unfolding count_below
count_upd f s x zero h = absurd (omega arith)
count_upd f s x (suc n) h =
    elim (ℕ_discrete s n) [
      | yes e ↦ omega (
        arith,
        count_cong (upd f s x) f n (λ t l. upd_other f s x t (omega arith)),
        ap (λ (t : ℕ). bit (upd f s x t)) (sym e) ∙ ap bit (upd_same f s x),
        ap (λ (t : ℕ). bit (f t)) e,
      )
      | no ne ↦ omega (arith, count_upd f s x n (omega arith), ap bit (upd_other f s x n (λ e. ne (sym e))))
    ]

-- ---- which is the first

-- by another test that holds where the one holds
pub first_cong : (f g : ℕ → Bool) (n : ℕ) (r : Option ℕ) → ((t : ℕ) → t < n → f t ≡ g t) → FirstBelow f n r → FirstBelow g n r
first_cong f g n (Some r) h z = record {
  inside = z.inside;
  holds = sym (h r z.inside) ∙ z.holds;
  before = λ t b. sym (h t (omega (arith, z.inside))) ∙ z.before t b;
}
first_cong f g n None h z = λ t b. sym (h t b) ∙ z t b
