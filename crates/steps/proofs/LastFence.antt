-- The settled stores under document 01's rule, as code finds them: with F the last fence taken, the stores before F to a
-- line that had a write-back before F.
use Rattle.std.specs.Prelude.{ℕ, zero, suc, ◌<◌, ◌≤◌, true, cond, ◌≡◌, refl, ltb}
use Rattle.std.proofs.Common.{arith, ltb-true, lt-ltb, eq-eqb}
use Rattle.words.specs.Bools.{by_test, same_test}
use Rattle.words.specs.BelowLaws.{any_make, any_at}
use Rattle.steps.proofs.Indices.{grow}
use Rattle.steps.specs.Model.{Step, store, write_back, fence, Steps, writes_back, rule01, is_settled}
use Rattle.steps.specs.Settling.{Settled}
use Rattle.steps.proofs.Settling.{is_back, settled_test, test_settled}
use Rattle.steps.specs.LastFence.{had_back, last_fence, on_fence}

-- up to where a fence at f settles the stores of a line
abbrev pub reach : Steps → ℕ → ℕ → ℕ
reach s f l = cond (had_back s f l) f 0

pub in_reach : (s : Steps) (f l i : ℕ) → i < reach s f l → (had_back s f l ≡ true) × (i < f)
in_reach s f l i =
    by_test (λ t. i < cond t f 0 → (had_back s f l ≡ true) × (i < f)) (had_back s f l)
    (λ e h. (e, h))
    (λ e h. absurd (omega arith))

-- ---- the last fence

on_most : (x : Step) (a b c : ℕ) → a ≤ c → b ≤ c → on_fence x a b ≤ c
on_most (store p v) a b c f g = g
on_most (write_back k) a b c f g = g
on_most fence a b c f g = f

module _ (s : Steps) where
  pub fence_below : (n : ℕ) → last_fence s n ≤ n
  fence_below zero = omega arith
  fence_below (suc n) = on_most (s n) n (last_fence s n) (suc n) (omega arith) (omega (arith, fence_below n))

  -- one is there where the number is not 0 ..
  fence_there : (n : ℕ) → 0 < last_fence s n → (s (last_fence s n) ≡ fence) × (last_fence s n < n)
  fence_there zero h = absurd (omega arith)
  fence_there (suc n) h = go (s n) refl h (fence_there n)
    where
      go : (x : Step) → s n ≡ x → 0 < on_fence x n (last_fence s n)
          → (0 < last_fence s n → (s (last_fence s n) ≡ fence) × (last_fence s n < n))
          → (s (on_fence x n (last_fence s n)) ≡ fence) × (on_fence x n (last_fence s n) < suc n)
      go (store p v) e k ih = ((ih k).0, omega (arith, (ih k).1))
      go (write_back j) e k ih = ((ih k).0, omega (arith, (ih k).1))
      go fence e k ih = (e, omega arith)

  -- .. and none is behind it
  fence_last : (n k : ℕ) → k < n → s k ≡ fence → k ≤ last_fence s n
  fence_last n k h e = grow (λ m. k ≤ last_fence s m) (suc k) n h (rw e (omega arith)) (λ m l b ih. go m (s m) l ih)
    where
      go : (m : ℕ) (x : Step) → suc k ≤ m → k ≤ last_fence s m → k ≤ on_fence x m (last_fence s m)
      go m (store p v) l ih = ih
      go m (write_back j) l ih = ih
      go m fence l ih = omega arith

  -- THE REACH: a store is settled exactly where it is before it
  pub settled_reach : (n i l : ℕ) → is_settled rule01 s n i l ≡ ltb i (reach s (last_fence s n) l)
  settled_reach n i l =
      same_test (is_settled rule01 s n i l) (ltb i (reach s f l))
      (λ e. to (test_settled rule01 s n i l e))
      (λ e. back (ltb-true i (reach s f l) e))
    where
      f : ℕ
      f = last_fence s n

      to : Settled rule01 s n i l → ltb i (reach s f l) ≡ true
      to r =
          let h : r.flush ≤ f = fence_last n r.flush r.taken r.fenced in
          let y : had_back s f l ≡ true =
          any_make (λ j. writes_back l (s j)) f r.back (omega arith) (rw r.written (eq-eqb l l refl)) in
          rw y (lt-ltb i f (omega (arith, ltb-true i r.flush r.ordered)))

      back : i < reach s f l → is_settled rule01 s n i l ≡ true
      back h =
          let r = in_reach s f l i h in
          let (j, b, w) = any_at (λ j. writes_back l (s j)) f r.0 in
          let g = fence_there n (omega (arith, r.1)) in
          settled_test rule01 s n i l (record {
            back = j;
            flush = f;
            written = is_back l (s j) w;
            fenced = g.0;
            ordered = lt-ltb i f r.1;
            behind = b;
            taken = g.1;
          })
