-- One turn of the pass over the slots, and of the search for twins.
use Rattle.std.specs.Prelude.{◌≡◌, true, false, cond, List, ◌≢◌, ℕ, zero, suc, ◌+◌, ◌-◌, ◌*◌, ◌/◌, ◌≤◌, ◌<◌, eqb, length, set}
use Rattle.std.proofs.Math.Path.{refl, subst}
use Rattle.std.proofs.Common.{sym, ap, ◌∙◌, pow_mono, get_or-set_same, get_or-set_other}
use Rattle.std.proofs.Math.Decide.{ℕ_discrete}
use Rattle.std.proofs.Math.Nat.{pow-suc}
use Rattle.std.proofs.Math.Numerals.{add-one}
use native.Mathlib.Omega.{arith}
use borrow.Author.Tests.{eq-eqb, ne_eqb, eqb-true}
use Rattle.std.proofs.Math.ListN.{get_or}
use Rattle.words.specs.Bools.{bit_most, both, both_true, differ, not_so, or_none}
use Rattle.words.specs.Below.{any_below, count_below}
use Rattle.words.specs.BelowLaws.{any_make, none_make, count_most}
use Rattle.leaf.specs.Leaf.{Leaf, Taken, leaf_in}
use Rattle.leaf.specs.Search.{count}
use Rattle.leaf.specs.Tally.{wrong_at, least_to, most_to, shares, twin_at, twins, Tells}
use Rattle.leaf.specs.declared.tally.Tally.{Tally}
use Rattle.leaf.specs.TallySteps.{Few, Hits, Stamped, TellsTo, noted, passed}

-- ---- the pass

hits_none : (L : Leaf) (n : ℕ) → Hits L n 0 → any_below (twin_at L) n ≡ false
unfolding any_below
hits_none L zero h = refl
hits_none L (suc n) h = rw (hits_none L n h.1) (h.0 refl)

hits_next : (L : Leaf) (n h b : ℕ) → b ≤ 1 → Hits L n h → (b ≡ 0 → twin_at L n ≡ false) → Hits L (suc n) (2 * h + b)
hits_next L n h b most so_far lone =
    let q : (2 * h + b) / 2 ≡ h = omega arith in
    (λ z. lone (omega arith), subst (Hits L n) (sym q) so_far)

module _ (L : Leaf) where
  pub tells_none : TellsTo L 0 (record { entries = 0; wrong = 0; least = 18446744073709551615; most = 0; hits = 0 })
  unfolding count_below least_to most_to
  tells_none = record { entries = refl; wrong = refl; least = refl; most = refl; few = omega arith; alone = refl }

  pub tells_few : (s : ℕ) (t : Tally) → s < 14 → TellsTo L s t → Few t
  tells_few s t b h = record {
    entries = omega (arith, h.entries, count_most L.occ s);
    wrong = omega (arith, h.wrong, count_most (wrong_at L) s);
    hits = omega (arith, h.few, pow_mono {i = s} {j = 14} (omega arith));
  }

  -- a slot whose fingerprint bore no stamp of this leaf has no twin below
  unstamped : (s number : ℕ) (stamps : List ℕ) → Stamped L number s stamps → get_or stamps (L.fp s) 0 ≢ number → any_below
      (shares L s) s ≡ false
  unfolding shares
  unstamped s number stamps h ne = none_make (shares L s) s (λ t b. not_so (shares L s t) (λ e.
      let r = both_true (L.occ t) (both (eqb (L.fp t) (L.fp s)) (eqb (L.key t) (L.key s))) e in
      let q = both_true (eqb (L.fp t) (L.fp s)) (eqb (L.key t) (L.key s)) r.1 in
      ne (ap (λ (p : ℕ). get_or stamps p 0) (sym (eqb-true (L.fp t) (L.fp s) q.0)) ∙ h t b r.0)))

  module _ (s number : ℕ) (stamps : List ℕ) (t : Tally) (so_far : TellsTo L s t) where
    -- an occupied slot is noted ..
    pub tells_taken : (print key hit : ℕ) (r : Tally) → Stamped L number s stamps → Taken L s → print ≡ L.fp s → key ≡ L.key s
        → hit ≡ cond (eqb (get_or stamps print 0) number) 1 0 → r ≡ noted print key hit t → TellsTo L
        (s + 1) r
    unfolding count_below wrong_at least_to most_to twin_at
    tells_taken print key hit r h o ep ek eh er = rw (er, ek, ep, add-one s) (record {
      entries = rw (so_far.entries, o);
      wrong = rw (so_far.wrong, o);
      least = rw (so_far.least, o);
      most = rw (so_far.most, o);
      few = omega (arith, so_far.few, hit_most, pow-suc 2 s);
      alone = hits_next L s t.hits hit hit_most so_far.alone lone;
    })
      where
        hit_most : hit ≤ 1
        hit_most = rw eh (bit_most (eqb (get_or stamps print 0) number))

        lone : hit ≡ 0 → twin_at L s ≡ false
        lone z = rw o (unstamped s number stamps h (λ e.
            let one : hit ≡ 1 = eh ∙ rw (eq-eqb (get_or stamps print 0) number (ap (λ (p : ℕ). get_or stamps p 0) ep ∙ e)) in
            omega arith))

    -- .. and a vacant one passed over
    pub tells_vacant : (r : Tally) → L.occ s ≡ false → r ≡ passed t → TellsTo L (s + 1) r
    unfolding count_below wrong_at least_to most_to twin_at
    tells_vacant r o er = rw (er, add-one s) (record {
      entries = rw o (so_far.entries ∙ plus_0 (count_below L.occ s));
      wrong = rw o (so_far.wrong ∙ plus_0 (count_below (wrong_at L) s));
      least = rw o so_far.least;
      most = rw o so_far.most;
      few = omega (arith, so_far.few, pow-suc 2 s);
      alone = subst (Hits L (suc s)) (sym (plus_0 (2 * t.hits)))
          (hits_next L s t.hits 0 (omega arith) so_far.alone (λ z. rw o refl));
    })
      where
        plus_0 : (n : ℕ) → n ≡ n + 0
        plus_0 n = omega arith

pub stamped_taken : (L : Leaf) (number s : ℕ) (stamps r : List ℕ) (print : ℕ) → Stamped L number s stamps → print ≡ L.fp s
    → print < length stamps → r ≡ set stamps print number → Stamped L number (s + 1) r
stamped_taken L number s stamps r print h ep b er t c o = rw er (elim (ℕ_discrete (L.fp t) print) [
  | yes e ↦ rw e (get_or-set_same stamps print number 0 b)
  | no ne ↦ get_or-set_other stamps print (L.fp t) number 0 ne ∙ elim (ℕ_discrete t s) [
    | yes q ↦ absurd (ne (ap L.fp q ∙ sym ep))
    | no q ↦ h t (omega arith) o
  ]
])

pub stamped_vacant : (L : Leaf) (number s : ℕ) (stamps : List ℕ) → Stamped L number s stamps → L.occ s ≡ false
    → Stamped L number (s + 1) stamps
stamped_vacant L number s stamps h v t c o =
    elim (ℕ_discrete t s) [ yes q ↦ differ (sym o ∙ ap L.occ q ∙ v) | no q ↦ h t (omega arith) o ]

-- the whole pass, over the 14 slots
pub tells_whole : (l : List ℕ) (s : ℕ) (t : Tally) → TellsTo (leaf_in l) s t → s ≡ 14
    → Tells (leaf_in l) t × Hits (leaf_in l) 14 t.hits
unfolding leaf_in count twins
tells_whole l s t h e = let w : TellsTo (leaf_in l) 14 t = subst
    (λ (n : ℕ). TellsTo (leaf_in l) n t) e h in (
      record {
        entries = w.entries;
        wrong = w.wrong;
        least = w.least;
        most = w.most;
      },
      w.alone,
    )

-- ---- the search for twins

module _ (L : Leaf) (s t : ℕ) where
  pub shares_key : L.occ t ≡ true → L.fp t ≡ L.fp s → eqb (L.key t) (L.key s) ≡ shares L s t
  unfolding shares
  shares_key o e = rw (o, eq-eqb (L.fp t) (L.fp s) e)

  pub shares_other : L.occ t ≡ true → (L.fp t ≡ L.fp s → ⊥) → false ≡ shares L s t
  unfolding shares
  shares_other o ne = rw (o, ne_eqb (L.fp t) (L.fp s) ne)

  pub shares_vacant : L.occ t ≡ false → false ≡ shares L s t
  unfolding shares
  shares_vacant o = rw o

module _ (L : Leaf) (s : ℕ) where
  pub twin_found : (t : ℕ) → L.occ s ≡ true → t < s → shares L s t ≡ true → true ≡ twin_at L s
  unfolding twin_at
  twin_found t o b e = rw (o, any_make (shares L s) s t b e)

  pub twin_none : L.occ s ≡ true → any_below (shares L s) s ≡ false → false ≡ twin_at L s
  unfolding twin_at
  twin_none o e = rw (o, e)

  pub twin_vacant : L.occ s ≡ false → false ≡ twin_at L s
  unfolding twin_at
  twin_vacant o = rw o

pub twins_found : (l : List ℕ) (s : ℕ) → s < 14 → twin_at (leaf_in l) s ≡ true → true ≡ twins (leaf_in l)
unfolding twins leaf_in
twins_found l s b e = sym (any_make (twin_at (leaf_in l)) 14 s b e)

-- the first n slots, of which the hits are told, have what twins there are
pub record Left (L : Leaf) (n hits : ℕ) : Type 0 where
  pub told : Hits L n hits
  pub rest : any_below (twin_at L) n ≡ twins L

pub left_whole : (l : List ℕ) (h : ℕ) → Hits (leaf_in l) 14 h → Left (leaf_in l) 14 h
unfolding twins leaf_in
left_whole l h k = record { told = k; rest = refl }

pub left_next : (L : Leaf) (n h : ℕ) → Left L (suc n) h → twin_at L n ≡ false → Left L n (h / 2)
unfolding any_below
left_next L n h k e = record { told = k.told.1; rest = sym (rw e (or_none (any_below (twin_at L) n))) ∙ k.rest }

-- where a hit is left, so is a slot
pub left_some : (L : Leaf) (n h : ℕ) → Left L n h → (h ≡ 0 → ⊥) → 0 < n
left_some L zero h k ne = absurd (ne k.told)
left_some L (suc n) h k ne = omega arith

-- the last slot and those below it
pub left_down : (L : Leaf) (s h : ℕ) → 0 < s → Left L s h → Left L (suc (s - 1)) h
left_down L s h b k = let q : s ≡ suc (s - 1) = omega arith in subst (λ (n : ℕ). Left L n h) q k

pub left_none : (L : Leaf) (n h : ℕ) → h ≡ 0 → Left L n h → false ≡ twins L
left_none L n h z k = sym (hits_none L n (subst (Hits L n) z k.told)) ∙ k.rest
