-- What a caller knows of a tally: no wrong fingerprint and no twin is a right leaf, and what the counts of keys say of each key.
use Rattle.std.specs.Prelude.{◌≡◌, false, ◌⊎◌, ◌≢◌, leb, eqb, Option, Some, None}
use Rattle.std.proofs.Math.Path.{refl, sym, ap}
use Rattle.std.proofs.Common.{◌∙◌}
use Rattle.std.proofs.Math.Bool.{true, cond, not}
use Rattle.std.proofs.Math.Logic.{inl, inr}
use Prim.Native.Nat.{ℕ, zero, suc, ◌+◌, ◌≤◌, ◌<◌, min, max}
use Rattle.std.proofs.Math.Decide.{ℕ_discrete, dec_lt}
use native.Mathlib.Omega.{arith}
use borrow.Author.Tests.{eq-eqb, ne_eqb, eqb-true, eqb-false, leb-true, leb-false, le-leb, lt-leb, not-true, not-false}
use Rattle.words.specs.Bools.{both, both_true, by_test, differ, not_so}
use Rattle.words.specs.Below.{any_below, count_below}
use Rattle.words.specs.BelowLaws.{any_make, any_none, none_make, count_zero, count_none, count_nth}
use Rattle.header.specs.Header.{fingerprint_of}
use Rattle.leaf.specs.Leaf.{Leaf, Taken, Right}
use Rattle.leaf.specs.Search.{least_from, key_or0, smallest_of, count}
use Rattle.leaf.proofs.SearchLaws.{least_at, least_none as no-least}
use Rattle.leaf.specs.Tally.{wrong_at, at_most, least_to, most_to, shares, twin_at, twins}

module _ (L : Leaf) (inside : (s : ℕ) → Taken L s → s < L.size) where
  prints : count_below (wrong_at L) L.size ≡ 0 → (s : ℕ) → Taken L s → L.fp s ≡ fingerprint_of (L.key s)
  unfolding wrong_at
  prints e s o =
      eqb-true (L.fp s) (fingerprint_of (L.key s))
      (not-false (eqb (L.fp s) (fingerprint_of (L.key s))) (sym (rw o) ∙ count_none (wrong_at L) L.size e s (inside s o)))

  -- two occupied slots with one key, t the lower
  lower : ((s : ℕ) → Taken L s → L.fp s ≡ fingerprint_of (L.key s)) → twins L ≡ false → (s t : ℕ) → t < s → Taken L s
      → Taken L t → L.key t ≡ L.key s → ⊥
  unfolding twins twin_at shares
  lower p e s t b o q k =
      let f : L.fp t ≡ L.fp s = p t q ∙ ap fingerprint_of k ∙ sym (p s o) in
      let h : shares L s t ≡ true = rw (q, eq-eqb (L.fp t) (L.fp s) f, eq-eqb (L.key t) (L.key s) k) in
      let w : twin_at L s ≡ true = rw (o, any_make (shares L s) s t b h) in
      differ (sym w ∙ any_none (twin_at L) L.size s e (inside s o))

  pub tally_right : count_below (wrong_at L) L.size ≡ 0 → twins L ≡ false → Right L
  tally_right e d = record {
    inside = inside;
    prints = prints e;
    differ = λ s t o q k. elim (ℕ_discrete s t) [
      | yes x ↦ x
      | no x ↦ elim (dec_lt t s) [
        | yes b ↦ absurd (lower (prints e) d s t b o q (sym k))
        | no b ↦ absurd (lower (prints e) d t s (omega arith) q o k)
      ]
    ];
  }

module _ (L : Leaf) (r : Right L) where
  pub right_prints : count_below (wrong_at L) L.size ≡ 0
  unfolding wrong_at
  right_prints = count_zero (wrong_at L) L.size
      (λ s b. by_test (λ o. both o (not (eqb (L.fp s) (fingerprint_of (L.key s)))) ≡ false) (L.occ s)
      (λ o. ap not (eq-eqb (L.fp s) (fingerprint_of (L.key s)) (r.prints s o)))
      (λ o. refl))

  pub right_twins : twins L ≡ false
  unfolding twins twin_at shares
  right_twins = none_make (twin_at L) L.size (λ s b. not_so (twin_at L s) (λ e.
      let p = both_true (L.occ s) (any_below (shares L s) s) e in
      differ (sym p.1 ∙ none_make (shares L s) s (λ t c. not_so (shares L s t) (λ f.
      let q = both_true (L.occ t) (both (eqb (L.fp t) (L.fp s)) (eqb (L.key t) (L.key s))) f in
      let k = both_true (eqb (L.fp t) (L.fp s)) (eqb (L.key t) (L.key s)) q.1 in
      let x : t ≡ s = r.differ t s q.0 p.0 (eqb-true (L.key t) (L.key s) k.1) in omega arith)))))

-- ---- keys at most x, and the largest key

module _ (L : Leaf) (x n : ℕ) where
  pub none_at_most : count_below (at_most L x) n ≡ 0 → (s : ℕ) → s < n → Taken L s → x < L.key s
  unfolding at_most
  none_at_most e s b o = leb-false (L.key s) x (sym (rw o) ∙ count_none (at_most L x) n e s b)

  pub all_above : ((s : ℕ) → s < n → Taken L s → x < L.key s) → count_below (at_most L x) n ≡ 0
  unfolding at_most
  all_above h = count_zero (at_most L x) n (λ s b. by_test (λ o. both o (leb (L.key s) x) ≡ false) (L.occ s)
      (λ o. lt-leb (L.key s) x (h s b o))
      (λ o. refl))

  pub some_at_most : 0 < count_below (at_most L x) n → (s : ℕ) × (s < n) × Taken L s × (L.key s ≤ x)
  unfolding at_most
  some_at_most h =
      let r = count_nth (at_most L x) n 0 h in
      let p = both_true (L.occ r.0) (leb (L.key r.0) x) r.2 in
      (r.0, r.1, p.0, leb-true (L.key r.0) x p.1)

module _ (L : Leaf) where
  pub most_above : (n s : ℕ) → s < n → Taken L s → L.key s ≤ most_to L n
  unfolding most_to
  most_above zero s b o = absurd (omega arith)
  most_above (suc n) s b o = by_test (λ t. L.key s ≤ cond t (max (most_to L n) (L.key n)) (most_to L n)) (L.occ n)
      (λ q. elim (ℕ_discrete s n) [ yes e ↦ rw e (omega arith) | no ne ↦ omega (arith, most_above n s (omega arith) o) ])
      (λ q. elim (ℕ_discrete s n) [ yes e ↦ differ (sym o ∙ ap L.occ e ∙ q) | no ne ↦ most_above n s (omega arith) o ])

  most_or : (n : ℕ) → (most_to L n ≡ 0) ⊎ ((t : ℕ) × (t < n) × Taken L t × (L.key t ≡ most_to L n))
  unfolding most_to
  most_or zero = inl refl
  most_or (suc n) = by_test
      (λ x. (cond x (max (most_to L n) (L.key n)) (most_to L n) ≡ 0)
      ⊎ ((t : ℕ) × (t < suc n) × Taken L t × (L.key t ≡ cond x (max (most_to L n) (L.key n)) (most_to L n))))
      (L.occ n)
      (λ o. elim (dec_lt (L.key n) (most_to L n)) [
        | yes b ↦ elim (most_or n) [
          | inl z ↦ absurd (omega arith)
          | inr f ↦ inr (f.0, omega (arith, f.1), f.2, omega (arith, f.3))
        ]
        | no b ↦ inr (n, omega arith, o, omega arith)
      ])
      (λ o. elim (most_or n) [ inl z ↦ inl z | inr f ↦ inr (f.0, omega (arith, f.1), f.2, f.3) ])

  -- it is the key of an occupied slot, where there is one
  pub most_is : (n s : ℕ) → s < n → Taken L s → (t : ℕ) × (t < n) × Taken L t × (L.key t ≡ most_to L n)
  most_is n s b o = elim (most_or n) [ inl z ↦ (s, b, o, omega (arith, most_above n s b o)) | inr f ↦ f ]

-- ---- the smallest key

plus_0 : (n : ℕ) → n + 0 ≡ n
plus_0 n = omega arith

least_none : (L : Leaf) (n : ℕ) → count_below L.occ n ≡ 0 → least_to L n ≡ 18446744073709551615
unfolding count_below least_to
least_none L zero e = refl
least_none L (suc n) e = by_test
    (λ o. count_below L.occ n + cond o 1 0 ≡ 0 → cond o (min (least_to L n) (L.key n)) (least_to L n) ≡ 18446744073709551615)
    (L.occ n)
    (λ o z. absurd (omega arith))
    (λ o z. least_none L n (omega arith))
    e

-- some key is at most x exactly when there is a smallest one and it is
pub least_reaches : (L : Leaf) (n x : ℕ) → ((s : ℕ) → L.key s ≤ 18446744073709551615)
    → both (not (eqb (count_below L.occ n) 0)) (leb (least_to L n) x) ≡ not (eqb (count_below (at_most L x) n) 0)
unfolding count_below least_to at_most
least_reaches L zero x b = refl
least_reaches L (suc n) x b = by_test
    (λ o. both (not (eqb (all + cond o 1 0) 0)) (leb (cond o (min least key) least) x) ≡ not
    (eqb (low + cond (both o (leb key x)) 1 0) 0))
    (L.occ n)
    (λ o. by_test
    (λ y. both (not (eqb (all + 1) 0)) (leb (min least key) x) ≡ not (eqb (low + cond y 1 0) 0))
    (leb key x)
    (λ q. rw (
      ne_eqb (all + 1) 0 (λ z. omega arith),
      le-leb (min least key) x (omega (arith, leb-true key x q)),
      ne_eqb
          (low + 1) 0 (λ z. omega arith),
    ))
    (λ q. rw (ne_eqb (all + 1) 0 (λ z. omega arith), plus_0 low)
    (other (leb-false key x q) ∙ some (leb-false key x q) ∙ least_reaches L n x b)))
    (λ o. rw (plus_0 all, plus_0 low) (least_reaches L n x b))
  where
    all : ℕ
    all = count_below L.occ n

    low : ℕ
    low = count_below (at_most L x) n

    least : ℕ
    least = least_to L n

    key : ℕ
    key = L.key n

    other : x < key → leb (min least key) x ≡ leb least x
    other g = by_test (λ y. leb (min least key) x ≡ y) (leb least x)
        (λ q. le-leb (min least key) x (omega (arith, leb-true least x q)))
        (λ q. lt-leb (min least key) x (omega (arith, leb-false least x q)))

    some : x < key → leb least x ≡ both (not (eqb all 0)) (leb least x)
    some g = by_test (λ y. leb least x ≡ both (not y) (leb least x)) (eqb all 0)
        (λ q. lt-leb least x (omega (arith, least_none L n (eqb-true all 0 q), b n)))
        (λ q. refl)

-- the smallest key by what a pass has: 0 where there is none
pub smallest_is : (L : Leaf) → ((s : ℕ) → L.key s ≤ 18446744073709551615)
    → cond (eqb (count L) 0) 0 (least_to L L.size) ≡ smallest_of L
unfolding smallest_of count
smallest_is L b = go (least_from L 0) refl
  where
    all : ℕ
    all = count_below L.occ L.size

    least : ℕ
    least = least_to L L.size

    low : ℕ → ℕ
    low x = count_below (at_most L x) L.size

    go : (x : Option ℕ) → least_from L 0 ≡ x → cond (eqb all 0) 0 least ≡ key_or0 L x
    go None e = rw (eq-eqb all 0 (count_zero L.occ L.size (λ s c. not_so (L.occ s) (λ o.
        absurd (omega (arith, no-least L 0 e s c o))))))
    go (Some s) e =
        let m = least_at L 0 s e in
        let some = ne_eqb all 0 (λ z. differ (sym m.taken ∙ count_none L.occ L.size z s m.below)) in
        let own = ne_eqb (low (L.key s)) 0 (λ z. absurd (omega (arith, none_at_most L (L.key s) L.size z s m.below m.taken))) in
        let under = both_true (not (eqb all 0)) (leb least (L.key s)) (least_reaches L L.size (L.key s) b ∙ ap not own) in
        let over : not (eqb (low least) 0) ≡ true = sym (least_reaches L L.size least b) ∙ rw (some, le-leb least least (omega arith)) in
        let any : low least ≢ 0 = eqb-false (low least) 0 (not-true (eqb (low least) 0) over) in
        let t = some_at_most L least L.size (omega arith) in
        rw some (omega (arith, leb-true least (L.key s) under.1, m.least t.0 t.1 t.2 (omega arith), t.3))
