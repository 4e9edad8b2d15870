-- What a caller knows of a search without its recursion: it finds a slot exactly when one passes, and that slot is the lowest, the
-- least or, in a right leaf, the only one.
use Rattle.std.specs.Prelude.{◌≡◌, Bool, not, ◌≢◌, leb, eqb, Option, Some, None}
use Rattle.std.proofs.Math.Path.{refl}
use Rattle.std.proofs.Common.{sym, ◌∙◌}
use Rattle.std.proofs.Math.Bool.{true, false}
use Prim.Native.Nat.{ℕ, zero, suc, ◌+◌, ◌≤◌, ◌<◌}
use Rattle.std.proofs.Math.Decide.{ℕ_discrete, dec_lt}
use native.Mathlib.Omega.{arith}
use borrow.Author.Tests.{eq-eqb, eqb-true, leb-true, le-leb, ltb-true, ltb-false, not-true, not-false}
use Rattle.words.specs.Bools.{both, both_true, by_test, differ, never, not_so}
use Rattle.header.specs.Header.{fingerprint_of}
use Rattle.leaf.specs.Leaf.{Leaf, Taken, Right}
use Rattle.leaf.specs.Search.{pick_slot, lowest, holds_key, slot_of, lowest_vacant, nearer, closer, closest, least_from}

-- ---- the lowest slot that passes a test

-- s is the lowest of the n from i on that passes
pub record Lowest (f : ℕ → Bool) (n i s : ℕ) : Type 0 where
  pub from : i ≤ s
  pub below : s < i + n
  pub passes : f s ≡ true
  pub first : (t : ℕ) → i ≤ t → t < s → f t ≡ false

module _ (f : ℕ → Bool) where
  first_more : (i s : ℕ) → f i ≡ false → ((t : ℕ) → suc i ≤ t → t < s → f t ≡ false) → (t : ℕ) → i ≤ t → t < s → f t ≡ false
  first_more i s e h t a b = elim (ℕ_discrete t i) [ yes p ↦ rw p e | no p ↦ h t (omega arith) b ]

  pub lowest_at : (n i s : ℕ) → lowest f n i ≡ Some s → Lowest f n i s
  unfolding lowest
  lowest_at zero i s e = never cc
  lowest_at (suc n) i s e = by (lowest_at n (suc i) s) (f i) refl e
    where
      by : (lowest f n (suc i) ≡ Some s → Lowest f n (suc i) s) → (b : Bool) → f i ≡ b → pick_slot b i (lowest f n (suc i)) ≡ Some s
          → Lowest f (suc n) i s
      by ih true p q =
          let x : i ≡ s = cc in
          record { from = omega arith; below = omega arith; passes = rw (← x) p; first = λ t a b. absurd (omega arith) }
      by ih false p q =
          let r = ih q in
          record { from = omega arith; below = omega arith; passes = r.passes; first = first_more i s p r.first }

  pub lowest_none : (n i : ℕ) → lowest f n i ≡ None → (t : ℕ) → i ≤ t → t < i + n → f t ≡ false
  unfolding lowest
  lowest_none zero i e t a b = absurd (omega arith)
  lowest_none (suc n) i e t a b = by (lowest_none n (suc i)) (f i) refl e
    where
      by : (lowest f n (suc i) ≡ None → (t : ℕ) → suc i ≤ t → t < suc i + n → f t ≡ false) → (b : Bool) → f i ≡ b
          → pick_slot b i (lowest f n (suc i)) ≡ None → f t ≡ false
      by ih true p q = never cc
      by ih false p q = first_more i (i + suc n) p (λ u c d. ih q u c (omega arith)) t a b

  pub lowest_is : (n i s : ℕ) → Lowest f n i s → lowest f n i ≡ Some s
  unfolding lowest
  lowest_is zero i s r = absurd (omega arith)
  lowest_is (suc n) i s r =
      elim (ℕ_discrete i s) [
        | yes p ↦ rw (p, r.passes)
        | no p ↦ rw (r.first i (omega arith) (omega arith))
            (lowest_is n (suc i) s
            (record { from = omega arith; below = omega arith; passes = r.passes; first = λ t a b. r.first t (omega arith) b }))
      ]

  pub lowest_not : (n i : ℕ) → ((t : ℕ) → i ≤ t → t < i + n → f t ≡ false) → lowest f n i ≡ None
  unfolding lowest
  lowest_not zero i h = refl
  lowest_not (suc n) i h = rw (h i (omega arith) (omega arith)) (lowest_not n (suc i) (λ t a b. h t (omega arith) (omega arith)))

-- two tests that agree find the same slot
pub lowest_same : (f g : ℕ → Bool) (n i : ℕ) → ((t : ℕ) → i ≤ t → t < i + n → f t ≡ g t) → lowest f n i ≡ lowest g n i
unfolding lowest
lowest_same f g zero i h = refl
lowest_same f g (suc n) i h =
    rw (h i (omega arith) (omega arith), lowest_same f g n (suc i) (λ t a b. h t (omega arith) (omega arith)))

-- the lowest vacant slot
pub vacant_at : (occ : ℕ → Bool) (n s : ℕ) → lowest_vacant occ n ≡ Some s → (s < n) × (occ s ≡ false) ×
    ((t : ℕ) → t < s → occ t ≡ true)
unfolding lowest_vacant
vacant_at occ n s e =
    let r = lowest_at (λ s. not (occ s)) n 0 s e in
    (omega arith, not-true (occ s) r.passes, λ t b. not-false (occ t) (r.first t (omega arith) b))

pub vacant_none : (occ : ℕ → Bool) (n : ℕ) → lowest_vacant occ n ≡ None → (t : ℕ) → t < n → occ t ≡ true
unfolding lowest_vacant
vacant_none occ n e t b = not-false (occ t) (lowest_none (λ s. not (occ s)) n 0 e t (omega arith) (omega arith))

-- ---- the slot of a key

-- slot s is occupied and has the key and its fingerprint
pub record Holds (L : Leaf) (k s : ℕ) : Type 0 where
  pub taken : Taken L s
  pub print : L.fp s ≡ fingerprint_of k
  pub key : L.key s ≡ k

module _ (L : Leaf) (k : ℕ) where
  holds_means : (s : ℕ) → holds_key L k s ≡ true → Holds L k s
  unfolding holds_key
  holds_means s e =
      let r = both_true (L.occ s) (both (eqb (L.fp s) (fingerprint_of k)) (eqb (L.key s) k)) e in
      let q = both_true (eqb (L.fp s) (fingerprint_of k)) (eqb (L.key s) k) r.1 in
      record { taken = r.0; print = eqb-true _ _ q.0; key = eqb-true _ _ q.1 }

  means_holds : (s : ℕ) → Holds L k s → holds_key L k s ≡ true
  unfolding holds_key
  means_holds s h = rw (h.taken, eq-eqb (L.fp s) (fingerprint_of k) h.print, eq-eqb (L.key s) k h.key)

  pub slot_at : (s : ℕ) → slot_of L k ≡ Some s → (s < L.size) × Holds L k s
  unfolding slot_of
  slot_at s e = let r = lowest_at (holds_key L k) L.size 0 s e in (omega arith, holds_means s r.passes)

-- in a right leaf the search finds every key, in the one slot that has it
module _ (L : Leaf) (r : Right L) where
  pub slot_of_lem : (s : ℕ) → Taken L s → slot_of L (L.key s) ≡ Some s
  unfolding slot_of
  slot_of_lem s o =
      lowest_is (holds_key L (L.key s)) L.size 0 s
      (record {
        from = omega arith;
        below = omega (arith, r.inside s o);
        passes = means_holds L (L.key s) s (record { taken = o; print = r.prints s o; key = refl });
        first = λ t a b. not_so (holds_key L (L.key s) t) (λ e.
            let h = holds_means L (L.key s) t e in
            let x : t ≡ s = r.differ t s h.taken o h.key in omega arith);
      })

  pub slot_missing : (k : ℕ) → slot_of L k ≡ None → (s : ℕ) → Taken L s → L.key s ≢ k
  slot_missing k e s o p =
      let x : Some s ≡ None = sym (slot_of_lem s o) ∙ rw p e in never cc

-- ---- the least key from k on

-- s is an occupied slot of the first n, with the smallest key at or above k
pub record Least (L : Leaf) (k n s : ℕ) : Type 0 where
  pub below : s < n
  pub taken : Taken L s
  pub from : k ≤ L.key s
  pub least : (t : ℕ) → t < n → Taken L t → k ≤ L.key t → L.key s ≤ L.key t

-- what an answer for the first n slots says
abbrev pub Answers : Leaf → ℕ → ℕ → Option ℕ → Type 0
Answers L k n (Some s) = Least L k n s
Answers L k n None = (t : ℕ) → t < n → Taken L t → L.key t < k

module _ (L : Leaf) (k : ℕ) where
  -- slot n does not count
  passed : (n : ℕ) (best : Option ℕ) → (Taken L n → k ≤ L.key n → nearer L n best ≡ false) → Answers L k n best → Answers L k
      (suc n) best
  passed n (Some s) f a = record {
    below = omega (arith, a.below);
    taken = a.taken;
    from = a.from;
    least = λ t b o c. elim (ℕ_discrete t n) [
      | yes e ↦ let o2 : Taken L n = rw e at o in let c2 : k ≤ L.key n = rw e at c in
          rw e (ltb-false (L.key n) (L.key s) (f o2 c2))
      | no ne ↦ a.least t (omega arith) o c
    ];
  }
  passed n None f a = λ t b o.
      elim (ℕ_discrete t n) [
        | yes e ↦ elim (dec_lt (L.key t) k) [
          | yes l ↦ l
          | no l ↦ let c : k ≤ L.key t = omega arith in differ (f (rw e at o) (rw e at c))
        ]
        | no ne ↦ a t (omega arith) o
      ]

  -- slot n is the new best
  taken_on : (n : ℕ) (best : Option ℕ) → Taken L n → k ≤ L.key n → nearer L n best ≡ true → Answers L k n best → Least L k (suc n) n
  taken_on n (Some s) o c e a = record {
    below = omega arith;
    taken = o;
    from = c;
    least = λ t b p d. elim (ℕ_discrete t n) [
      | yes q ↦ rw q (omega arith)
      | no ne ↦ omega (arith, ltb-true (L.key n) (L.key s) e, a.least t (omega arith) p d)
    ];
  }
  taken_on n None o c e a = record {
    below = omega arith;
    taken = o;
    from = c;
    least = λ t b p d. elim (ℕ_discrete t n) [
      | yes q ↦ rw q (omega arith)
      | no ne ↦ absurd (omega (arith, a t (omega arith) p))
    ];
  }

  pub answers : (n : ℕ) → Answers L k n (closest L k n)
  unfolding closest
  answers zero = λ t b o. absurd (omega arith)
  answers (suc n) = by (closest L k n) (answers n)
    where
      by : (best : Option ℕ) → Answers L k n best → Answers L k (suc n) (closer L k n best)
      by best a =
          by_test (λ b. Answers L k (suc n) (pick_slot b n best)) (both (L.occ n) (both (leb k (L.key n)) (nearer L n best)))
          (λ e.
          let p = both_true (L.occ n) (both (leb k (L.key n)) (nearer L n best)) e in
          let q = both_true (leb k (L.key n)) (nearer L n best) p.1 in
          taken_on n best p.0 (leb-true k (L.key n) q.0) q.1 a)
          (λ e. passed n best (λ o c. not_so (nearer L n best) (λ x. differ (sym (rw (o, le-leb k (L.key n) c, x)) ∙ e))) a)

  pub least_at : (s : ℕ) → least_from L k ≡ Some s → Least L k L.size s
  unfolding least_from
  least_at s e = rw e at (answers L.size)

  pub least_none : least_from L k ≡ None → (t : ℕ) → t < L.size → Taken L t → L.key t < k
  unfolding least_from
  least_none e = rw e at (answers L.size)
