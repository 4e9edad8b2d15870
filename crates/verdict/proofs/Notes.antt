-- What the state of a walk says of the leaves passed, xs: they are the chain so far, and the notes are theirs.
use Rattle.std.specs.Prelude.{◌≡◌, refl, Bool, true, false, cond, not, List, [], ◌∷◌, ◌++◌, ◌≢◌, ℕ, ◌+◌, ◌≤◌, ◌<◌, eqb}
use Rattle.std.proofs.Common.{sym, ap, ap₂, ◌∙◌, append_assoc, inl, inr, arith, eq-eqb, ne_eqb, eqb-true, length-append}
use Rattle.std.proofs.Math.Decide.{ℕ_discrete}
use Rattle.std.proofs.lemmas.Bool.{eqb-false, not-false}
use Rattle.words.specs.Update.{upd, upd_same, upd_other}
use Rattle.words.specs.Bools.{both, both_none, by_test, differ}
use Rattle.words.specs.Below.{count_below}
use Rattle.words.specs.BelowLaws.{count_none}
use Rattle.leaf.specs.Leaf.{Leaf, Taken, In}
use Rattle.leaf.specs.Search.{count}
use Rattle.leaf.specs.Tally.{at_most, most_to}
use Rattle.leaf.proofs.TallyLaws.{tally_right, right_prints, right_twins, none_at_most, all_above, some_at_most, most_above, most_is}
use Rattle.survey.specs.Walk.{State, again_by, moved}
use Rattle.image.specs.Chain.{All, Has}
use Rattle.image.proofs.ChainLaws.{all_join, all_map, all_split, has_split, has_left, has_right}
use Rattle.image.proofs.CountLaws.{count_filled}
use Rattle.image.specs.Potential.{entries, sum_of}
use Rattle.image.proofs.Walk.{Stands, walk_on}
use Rattle.verdict.specs.Passed.{Passed}
use Rattle.verdict.specs.Place.{reaches_to, target_from, before_from}
use Rattle.verdict.specs.Notes.{Aim, Notes, here, last_or, nowhere}

-- ---- lists with one more

last_more : (p : ℕ) (xs : List ℕ) (x : ℕ) → last_or p (xs ++ (x ∷ [])) ≡ x
last_more p [] x = refl
last_more p (y ∷ xs) x = last_more y xs x

pick_not : (b : Bool) (x y : ℕ) → cond b x y ≡ cond (not b) y x
pick_not true x y = refl
pick_not false x y = refl

target_more : (I : ℕ → Leaf) (k : ℕ) (xs : List ℕ) (t x : ℕ)
    → target_from I k t (xs ++ (x ∷ [])) ≡ cond (reaches_to (I x) k) x (target_from I k t xs)
unfolding target_from
target_more I k [] t x = refl
target_more I k (y ∷ xs) t x = target_more I k xs (cond (reaches_to (I y) k) y t) x

before_more : (I : ℕ → Leaf) (k : ℕ) (xs : List ℕ) (p prev x : ℕ)
    → before_from I k p prev (xs ++ (x ∷ [])) ≡ cond (reaches_to (I x) k) (last_or prev xs) (before_from I k p prev xs)
unfolding before_from
before_more I k [] p prev x = refl
before_more I k (y ∷ xs) p prev x = before_more I k xs (cond (reaches_to (I y) k) prev p) y x

entries_more : (I : ℕ → Leaf) (xs : List ℕ) (x : ℕ) → entries I (xs ++ (x ∷ [])) ≡ entries I xs + count (I x)
unfolding sum_of
entries_more I [] x = omega arith
entries_more I (y ∷ xs) x = omega (arith, entries_more I xs x)

empty_leaf_lem : (L : Leaf) → count L ≡ 0 → (s : ℕ) → s < L.size → Taken L s → ⊥
unfolding count
empty_leaf_lem L z s b t = differ (sym t ∙ count_none L.occ L.size z s b)

positive : (m : ℕ) → (m ≡ 0 → ⊥) → 0 < m
positive m ne = omega arith

module _ (I : ℕ → Leaf) (N key : ℕ) (inside : (b s : ℕ) → Taken (I b) s → s < (I b).size) where
  no_entries : (xs : List ℕ) → entries I xs ≡ 0 → (j u : ℕ) → Has I xs j u → ⊥
  unfolding sum_of
  no_entries [] e j u x'' = elim x'' [ ]
  no_entries (x ∷ xs) e j u (inl i) = empty_leaf_lem (I x) (omega arith) i.at (inside x i.at i.taken) i.taken
  no_entries (x ∷ xs) e j u (inr h) = no_entries xs (omega arith) j u h

  module _ (xs : List ℕ) (st : State) (n : Notes I N key xs st) where
    abbrev L : Leaf
    L = I st.at

    abbrev low : ℕ
    low = count_below (at_most (I st.at) st.last) (I st.at).size

    -- ---- the tests and the leaf that stands

    pub passed_stands : All (λ x. x ≢ st.at) xs → Passed (I st.at) N st → Stands I N xs st.at
    passed_stands fresh p = record {
      fresh = fresh;
      good = record {
        unlocked = p.unlocked;
        near = p.near;
        right = tally_right L (inside st.at) p.prints p.alone;
        filled = elim (ℕ_discrete (count L) 0) [
          | yes z ↦ inl (eqb-true st.at 0 (not-false (eqb st.at 0)
              (sym (ap (λ (b : Bool). both b (not (eqb st.at 0))) (eq-eqb (count L) 0 z)) ∙ p.full)))
          | no nz ↦ inr (count_filled L (omega arith))
        ];
      };
      above = λ j u k v h i. elim (ℕ_discrete st.entries 0) [
        | yes z ↦ absurd (no_entries xs (sym n.entries ∙ z) j u h)
        | no nz ↦ omega (
          arith,
          n.most j u h,
          i.key_is,
          none_at_most L st.last L.size (none nz) i.at
              (inside st.at i.at i.taken) i.taken,
        )
      ];
    }
      where
        none : st.entries ≢ 0 → low ≡ 0
        none nz = eqb-true low 0 (not-false (eqb low 0)
            (sym (ap (λ (b : Bool). both (not b) (not (eqb low 0))) (ne_eqb st.entries 0 nz)) ∙ p.above))

    pub stands_passed : Stands I N xs st.at → again_by st (I st.at).next ≡ false → Passed (I st.at) N st
    stands_passed s new = record {
      near = s.good.near;
      new = new;
      unlocked = s.good.unlocked;
      full = elim s.good.filled [
        | inl e ↦ ap (λ (b : Bool). both (eqb (count L) 0) (not b)) (eq-eqb st.at 0 e) ∙ both_none (eqb (count L) 0)
        | inr f ↦ ap (λ (b : Bool). both b (not (eqb st.at 0)))
            (ne_eqb (count L) 0 (λ z. empty_leaf_lem L z f.at (inside st.at f.at f.taken) f.taken))
      ];
      prints = right_prints L s.good.right;
      alone = right_twins L s.good.right;
      above = elim (ℕ_discrete st.entries 0) [
        | yes z ↦ ap (λ (b : Bool). both (not b) (not (eqb low 0))) (eq-eqb st.entries 0 z)
        | no nz ↦ ap (λ (b : Bool). both (not (eqb st.entries 0)) (not b)) (eq-eqb low 0 (none nz))
            ∙ both_none (not (eqb st.entries 0))
      ];
    }
      where
        none : st.entries ≢ 0 → low ≡ 0
        none nz =
            let a = n.attained nz in
            all_above L st.last L.size
            (λ t b o. s.above st.last a.0 (L.key t) (L.val t) a.1
            (record { at = t; taken = o; key_is = refl; val_is = refl }))

    -- ---- the notes of one leaf more

    module _ (s : Stands I N xs st.at) where
      abbrev pub reached : ℕ
      reached = count_below (at_most (I st.at) key) (I st.at).size

      abbrev pub most : ℕ
      most = most_to (I st.at) (I st.at).size

      one : (j u : ℕ) → In L j u → Has I (xs ++ (st.at ∷ [])) j u
      one j u i = has_right I j u xs (st.at ∷ []) (inl i)

      entry : (t : ℕ) → Taken L t → In L (L.key t) (L.val t)
      entry t o = record { at = t; taken = o; key_is = refl; val_is = refl }

      past : reached ≡ 0 → (j u : ℕ) → In L j u → key < j
      past e j u i = omega (arith, i.key_is, none_at_most L key L.size e i.at (inside st.at i.at i.taken) i.taken)

      further : reached ≡ 0 → Aim I key xs st.target st.before → Aim I key (xs ++ (st.at ∷ [])) st.target st.before
      further e (nowhere f z) =
          nowhere (λ j u h. elim (has_split I j u xs (st.at ∷ []) h)
          [ inl g ↦ f j u g | inr g ↦ elim g [ inl i ↦ past e j u i | inr x ↦ absurd x ] ]) z
      further e (here ys zs q b r f) =
          here ys (zs ++ (st.at ∷ []))
          (ap (λ (l : List ℕ). l ++ (st.at ∷ [])) q ∙ append_assoc ys (st.target ∷ zs) (st.at ∷ [])) b r
          (λ j u h. elim (has_split I j u zs (st.at ∷ []) h)
          [ inl g ↦ f j u g | inr g ↦ elim g [ inl i ↦ past e j u i | inr x ↦ absurd x ] ])

      aimed : Aim I key (xs ++ (st.at ∷ [])) (cond (eqb reached 0) st.target st.at)
          (cond (eqb reached 0) st.before st.prev)
      aimed = by_test
          (λ b. Aim I key (xs ++ (st.at ∷ [])) (cond b st.target st.at) (cond b st.before st.prev))
          (eqb reached 0)
          (λ e. further (eqb-true reached 0 e) n.aim)
          (λ e.
          let r = some_at_most L key L.size (positive reached (eqb-false reached 0 e)) in
          here xs [] refl n.prev (L.key r.0, L.val r.0, entry r.0 r.2, r.3) (λ j u h. absurd h))

      upper : (j u : ℕ) → Has I (xs ++ (st.at ∷ [])) j u → j ≤ cond (eqb (count L) 0) st.last most
      upper j u h = elim (ℕ_discrete (count L) 0) [
        | yes z ↦ rw (eq-eqb (count L) 0 z) (elim (has_split I j u xs (st.at ∷ []) h) [
          | inl g ↦ n.most j u g
          | inr g ↦ elim g [
            | inl i ↦ absurd (empty_leaf_lem L z i.at (inside st.at i.at i.taken) i.taken)
            | inr x ↦ absurd x
          ]
        ])
        | no nz ↦ rw (ne_eqb (count L) 0 nz) (elim (has_split I j u xs (st.at ∷ []) h) [
          | inl g ↦ let f = count_filled L (positive (count L) nz) in
              omega (
                arith,
                s.above j u (L.key f.at) (L.val f.at) g (entry f.at f.taken),
                most_above L L.size f.at (inside st.at f.at f.taken) f.taken,
              )
          | inr g ↦ elim g [
            | inl i ↦ omega (arith, i.key_is, most_above L L.size i.at (inside st.at i.at i.taken) i.taken)
            | inr x ↦ absurd x
          ]
        ])
      ]

      top : (st.entries + count L ≡ 0 → ⊥) → (u : ℕ) × Has I (xs ++ (st.at ∷ [])) (cond (eqb (count L) 0) st.last most) u
      top ne = elim (ℕ_discrete (count L) 0) [
        | yes z ↦ let a = n.attained (λ e. ne (omega arith)) in
            rw (eq-eqb (count L) 0 z) (a.0, has_left I st.last a.0 xs (st.at ∷ []) a.1)
        | no nz ↦ let f = count_filled L (positive (count L) nz) in
            let m = most_is L L.size f.at (inside st.at f.at f.taken) f.taken in
            rw (ne_eqb (count L) 0 nz)
            (L.val m.0, one most (L.val m.0) (record { at = m.0; taken = m.2; key_is = m.3; val_is = refl }))
      ]

      still : (b : ℕ) → st.met b ≡ true → upd st.met L.next true b ≡ true
      still b e = elim (ℕ_discrete b L.next) [
        | yes q ↦ rw q (upd_same st.met L.next true)
        | no q ↦ upd_other st.met L.next true b q ∙ e
      ]

      pub notes_on : Notes I N key (xs ++ (st.at ∷ [])) (moved (I st.at).next (count (I st.at)) reached most st)
      notes_on = record {
        walked = walk_on I N xs st.at n.walked s;
        leaves = omega (arith, n.leaves, length-append xs (st.at ∷ []));
        entries = omega (arith, n.entries, entries_more I xs st.at);
        prev = sym (last_more 0 xs st.at);
        aim = aimed;
        target = pick_not (eqb reached 0) st.target st.at ∙ ap (cond (reaches_to L key) st.at) n.target
            ∙ sym (target_more I key xs 0 st.at);
        before = pick_not (eqb reached 0) st.before st.prev
            ∙ ap₂ (λ (x y : ℕ). cond (reaches_to L key) x y) n.prev n.before ∙ sym (before_more I key xs 0 0 st.at);
        most = upper;
        attained = top;
        met_all = all_join (λ x. upd st.met L.next true x ≡ true) xs (st.at ∷ [])
            (all_map (λ x. st.met x ≡ true) (λ x. upd st.met L.next true x ≡ true) still xs n.met_all)
            (still st.at n.met_here, tt);
        met_here = upd_same st.met L.next true;
        met_only = λ b e ne a.
            let r = all_split (λ x. x ≢ b) xs (st.at ∷ []) a in
            n.met_only b (sym (upd_other st.met L.next true b ne) ∙ e) (λ q. r.1.0 (sym q)) r.0;
      }
