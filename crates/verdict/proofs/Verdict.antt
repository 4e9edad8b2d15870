-- The walk ends with the stage 1 exactly when the image is sound; then it has walked the chain, and its notes are the chain's.
use Rattle.std.specs.Prelude.{◌≡◌, refl, Bool, false, not, ◌≢◌, length}
use Rattle.std.proofs.Common.{sym, ap, ◌∙◌, arith, eq-eqb, ne_eqb, length-append}
use Rattle.std.proofs.Math.Path.{subst}
use Rattle.std.proofs.Math.Bool.{true}
use mathlib.Core.List.{List, [], ◌∷◌, ◌++◌}
use Prim.Native.Nat.{ℕ, zero, suc, ◌+◌, ◌≤◌, ◌<◌}
use Rattle.std.proofs.Math.Decide.{ℕ_discrete}
use Rattle.words.specs.Update.{upd_other}
use Rattle.words.specs.Bools.{bit, both, differ, not_so}
use Rattle.words.specs.Below.{count_below}
use Rattle.leaf.specs.Leaf.{Leaf, Taken}
use Rattle.leaf.specs.Search.{count}
use Rattle.leaf.specs.Tally.{at_most, most_to}
use Rattle.survey.specs.Walk.{State, again_by, fault_of, judged, moved, stopped, walk, start, surveyed}
use Rattle.survey.specs.Turns.{walk_stop}
use Rattle.image.specs.Chain.{All, Sound}
use Rattle.image.proofs.ChainLaws.{all_map, all_join, all_split}
use Rattle.image.proofs.ChainSize.{chain_short}
use Rattle.image.specs.Potential.{sum_of}
use Rattle.image.specs.Walk.{Walked}
use Rattle.image.proofs.Walk.{Stands, Onward, walk_start, walk_begins, walk_stands, walk_on, walk_ends}
use Rattle.verdict.proofs.Passed.{fault_passed, passed_fault, fault_number}
use Rattle.verdict.specs.Place.{target_from, before_from}
use Rattle.verdict.specs.Notes.{Notes, nowhere}
use Rattle.verdict.proofs.Notes.{passed_stands, stands_passed, notes_on}

-- the walk goes on: the block at hand is a new one
pub record Going (I : ℕ → Leaf) (N key : ℕ) (xs : List ℕ) (st : State) : Type 0 where
  pub notes : Notes I N key xs st
  pub stage : st.stage ≡ 0
  pub onward : Onward xs st.at
  pub fresh : All (λ x. x ≢ st.at) xs

-- it has ended: what it passed is the chain
pub record Ended (I : ℕ → Leaf) (N key : ℕ) (xs : List ℕ) (st : State) : Type 0 where
  pub notes : Notes I N key xs st
  pub stage : st.stage ≡ 1
  pub at : st.at ≡ 0
  pub some : 0 < length xs

-- what n turns more come to, where xs were passed
data Comes (I : ℕ → Leaf) (N key n : ℕ) (xs : List ℕ) (st : State) : Type 0 where
  goes : (ys : List ℕ) → Going I N key ys st → length ys ≡ length xs + n → Comes I N key n xs st
  ends : (ys : List ℕ) → Ended I N key ys st → Comes I N key n xs st
  fails : 31 ≤ st.stage → ((bs : List ℕ) → Sound I N bs → ⊥) → Comes I N key n xs st

module _ (I : ℕ → Leaf) (N key : ℕ) (inside : (b s : ℕ) → Taken (I b) s → s < (I b).size) where
  module _ (xs : List ℕ) (st : State) (g : Going I N key xs st) where
    abbrev L : Leaf
    L = I st.at

    abbrev after : State
    after = moved (I st.at).next (count (I st.at)) (count_below (at_most (I st.at) key) (I st.at).size)
        (most_to (I st.at) (I st.at).size) st

    judged_is : fault_of L N st ≡ 0 → judged L N key st ≡ after
    unfolding judged
    judged_is e = rw (eq-eqb (fault_of L N st) 0 e)

    judged_not : (fault_of L N st ≡ 0 → ⊥) → judged L N key st ≡ stopped (fault_of L N st) st
    unfolding judged
    judged_not ne = rw (ne_eqb (fault_of L N st) 0 ne)

    -- a block that was not met is none of those passed, nor the one at hand
    unmet : (b : ℕ) → st.met b ≡ false → All (λ x. x ≢ b) (xs ++ (st.at ∷ []))
    unmet b e =
        all_join (λ x. x ≢ b) xs (st.at ∷ [])
        (all_map (λ x. st.met x ≡ true) (λ x. x ≢ b) (λ x m q. differ (sym m ∙ ap st.met q ∙ e)) xs g.notes.met_all)
        (λ q. differ (sym g.notes.met_here ∙ ap st.met q ∙ e), tt)

    later : (ys : List ℕ) → (I st.at).next ≢ 0 → Onward (ys ++ (st.at ∷ [])) (I st.at).next
    later [] nz = nz
    later (y ∷ ys) nz = nz

    -- the next block, where it is new
    turn_on : Stands I N xs st.at → again_by st L.next ≡ false → Comes I N key 1 xs after
    turn_on s new = elim (ℕ_discrete L.next 0) [
      | yes z ↦ ends (xs ++ (st.at ∷ [])) (record {
        notes = notes_on I N key inside xs st g.notes s;
        stage = ap bit (eq-eqb L.next 0 z);
        at = z;
        some = omega (arith, length-append xs (st.at ∷ []));
      })
      | no nz ↦ goes (xs ++ (st.at ∷ [])) (record {
        notes = notes_on I N key inside xs st g.notes s;
        stage = ap bit (ne_eqb L.next 0 nz);
        onward = later xs nz;
        fresh = unmet L.next (sym (ap (λ (b : Bool). both (not b) (st.met L.next)) (ne_eqb L.next 0 nz)) ∙ new);
      }) (length-append xs (st.at ∷ []))
    ]

    -- in a sound image the leaf stands, and the next block is new
    sound_new : (bs : List ℕ) → Sound I N bs → Stands I N xs st.at → again_by st L.next ≡ false
    sound_new bs S s = elim (ℕ_discrete L.next 0) [
      | yes z ↦ ap (λ (b : Bool). both (not b) (st.met L.next)) (eq-eqb L.next 0 z)
      | no nz ↦ ap (λ (b : Bool). both (not b) (st.met L.next)) (ne_eqb L.next 0 nz)
          ∙ not_so (st.met L.next) (λ m.
          let w = walk_on I N xs st.at g.notes.walked s in
          let t = walk_stands I N (xs ++ (st.at ∷ [])) L.next w.links w.distinct (later xs nz) bs S in
          let r = split t in
          g.notes.met_only L.next m (λ q. r.1 (sym q)) r.0)
    ]
      where
        split : Stands I N (xs ++ (st.at ∷ [])) L.next → All (λ x. x ≢ L.next) xs × (st.at ≢ L.next)
        split t = let a = all_split (λ x. x ≢ L.next) xs (st.at ∷ []) t.fresh in (a.0, a.1.0)

    turn : Comes I N key 1 xs (judged L N key st)
    turn = elim (ℕ_discrete (fault_of L N st) 0) [
      | yes e ↦ let p = fault_passed L N st e in
          subst (Comes I N key 1 xs) (sym (judged_is e)) (turn_on (passed_stands I N key inside xs st g.notes g.fresh p) p.new)
      | no ne ↦ subst (Comes I N key 1 xs) (sym (judged_not ne)) (fails (fault_number L N st ne) (λ bs S.
          let s = walk_stands I N xs st.at g.notes.walked.links g.notes.walked.distinct g.onward bs S in
          ne (passed_fault L N st (stands_passed I N key inside xs st g.notes s (sound_new bs S s)))))
    ]

  -- ---- any number of turns

  turns : (n : ℕ) (xs : List ℕ) (st : State) → Going I N key xs st → Comes I N key n xs (walk I N key n st)
  unfolding walk
  turns zero xs st g = goes xs g (omega arith)
  turns (suc n) xs st g = rw (eq-eqb st.stage 0 g.stage) (on (judged (I st.at) N key st) (turn xs st g) (turns n))
    where
      on : (r : State) → Comes I N key 1 xs r
          → ((ys : List ℕ) (st : State) → Going I N key ys st → Comes I N key n ys (walk I N key n st))
          → Comes I N key (suc n) xs (walk I N key n r)
      on r (goes ys h e) ih = elim (ih ys r h) [
        | goes zs k f ↦ goes zs k (omega arith)
        | ends zs k ↦ ends zs k
        | fails f k ↦ fails f k
      ]
      on r (ends ys h) ih = subst (Comes I N key (suc n) xs) (sym (walk_stop I N key n r (λ e. omega (arith, h.stage)))) (ends ys h)
      on r (fails f h) ih = subst (Comes I N key (suc n) xs) (sym (walk_stop I N key n r (λ e. omega arith))) (fails f h)

  begin : Going I N key [] start
  unfolding sum_of target_from before_from
  begin = record {
    notes = record {
      walked = walk_start I N;
      leaves = refl;
      entries = refl;
      prev = refl;
      aim = nowhere (λ j u h. absurd h) refl;
      target = refl;
      before = refl;
      most = λ j u h. absurd h;
      attained = λ ne. absurd (ne refl);
      met_all = tt;
      met_here = refl;
      met_only = λ b e ne a. differ (sym e ∙ upd_other (λ c. false) 0 true b ne);
    };
    stage = refl;
    onward = refl;
    fresh = tt;
  }

  -- ---- THE VERDICT

  whole : Comes I N key N [] (surveyed I N key)
  unfolding surveyed
  whole = turns N [] start begin

  pub says_sound : (surveyed I N key).stage ≡ 1
      → (xs : List ℕ) × Sound I N xs × Notes I N key xs (surveyed I N key) × ((surveyed I N key).at ≡ 0)
  says_sound e = elim whole [
    | goes ys g f ↦ absurd (omega (arith, g.stage))
    | ends ys h ↦ chain ys h
    | fails f h ↦ absurd (omega arith)
  ]
    where
      chain : (ys : List ℕ) → Ended I N key ys (surveyed I N key)
          → (xs : List ℕ) × Sound I N xs × Notes I N key xs (surveyed I N key) × ((surveyed I N key).at ≡ 0)
      chain [] h = absurd (omega (arith, h.some))
      chain (y ∷ ys) h =
          (y ∷ ys, walk_ends I N y ys (subst (λ (a : ℕ). Walked I N (y ∷ ys) a) h.at h.notes.walked), h.notes, h.at)

  pub sound_says : 0 < N → (bs : List ℕ) → Sound I N bs → (surveyed I N key).stage ≡ 1
  sound_says pos bs S = elim whole [
    | goes ys g f ↦ let r = walk_begins I N ys (surveyed I N key).at g.notes.walked.links g.notes.walked.distinct
        g.onward bs S in
        absurd (omega (arith, chain_short I N bs S pos, ap length r.whole, length-append ys ((surveyed I N key).at ∷ r.rest)))
    | ends ys h ↦ h.stage
    | fails f h ↦ absurd (h bs S)
  ]
