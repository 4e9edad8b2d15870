-- The test in each row of the calls' tables is document 01's sentence, where the rows before it are passed.
use Rattle.std.specs.Prelude.{◌≡◌, refl, Bool, true, false, cond, not, ◌||◌, List, [], ◌∷◌, ◌⊎◌, ℕ, ◌+◌, ◌*◌, ◌/◌, ◌%◌, ◌≤◌, ◌<◌, ltb, eqb, length, get_or, Option, Some, None}
use Rattle.std.proofs.Common.{sym, ap, ◌∙◌, subst, inl, inr, arith, ltb-true, lt-ltb, eqb-true, eq-eqb}
use Rattle.std.proofs.lemmas.Bool.{not-true, not-false}
use Rattle.words.specs.Words.{reads}
use Rattle.words.specs.Bools.{both, both_true, by_test, differ, not_so, or_true, or_right}
use Rattle.words.specs.Below.{any_below}
use Rattle.words.specs.BelowLaws.{any_make, any_at, count_all, count_less}
use Rattle.leaf.specs.Leaf.{Leaf, Taken}
use Rattle.leaf.specs.Search.{count}
use Rattle.leaf.proofs.SearchLaws.{lowest_at, lowest_none}
use Rattle.steps.specs.Model.{line, made, rule01, settled}
use Rattle.steps.specs.Encoding.{second, well_formed, step_at, formed_at}
use Rattle.steps.proofs.EncodingLaws.{words_formed, pair_of}
use Rattle.steps.specs.Refusals.{bad_image}
use Rattle.machine.specs.Taking.{arrived, malformed, bad_list, outside, bad_arrivals}
use Rattle.image.specs.Map.{lookup}
use Rattle.image.proofs.ListLaws.{lookup_some, some_lookup}
use Rattle.image.specs.Chain.{Has}
use Rattle.image.proofs.Blocks.{view_size}
use Rattle.image.specs.Image.{blocks, leaves, SoundImage}
use Rattle.index.specs.Reading.{is_sound, chain_of, entries_in, is_none, is_short}
use Rattle.index.proofs.SoundTest.{sound_test, test_sound, sound_chain, long_enough}
use Rattle.index.proofs.Agreement.{entries_list}
use Rattle.writing.specs.Writing.{target_of, free_of, is_among, is_full}
use Rattle.demands.specs.Calls.{Asked, find, listing, recovery, put, set, del, run, cut, table}
use Rattle.demands.specs.Conditions.{BadLength, Unsound, Present, Absent, Among, Full}
use Rattle.demands.specs.Conditions.{Malformed, BadSteps, ShortBuffer, BadArrivals, conditions}
use Rattle.std.specs.Prelude.{◌≡◌, Bool, true, false, List, [], ◌∷◌, ◌↔◌, ℕ}
use Rattle.demands.specs.Conditions.{Rows}

-- ---- tests and sentences

-- the test holds exactly when the sentence does
abbrev Means : Bool → Type 0 → Type 0
Means b P = (b ≡ true) ↔ P

-- either of two tests
means_or : {P Q : Type 0} (b c : Bool) → Means b P → Means c Q → Means (b || c) (P ⊎ Q)
means_or b c p q = (
  λ e. elim (or_true b c e) [ inl x ↦ inl (p.0 x) | inr x ↦ inr (q.0 x) ],
  λ h. elim h [ inl x ↦ ap (λ (t : Bool). t || c) (p.1 x) | inr x ↦ or_right b c (q.1 x) ],
)

means_both : {P Q : Type 0} (b c : Bool) → Means b P → Means c Q → Means (both b c) (P × Q)
means_both b c p q = (
  λ e. let x = both_true b c e in (p.0 x.0, q.0 x.1),
  λ h. ap (λ (t : Bool). both t c) (p.1 h.0) ∙ q.1 h.1,
)

means_not : {P : Type 0} (b : Bool) → Means b P → Means (not b) (P → ⊥)
means_not b p = (
  λ e h. differ (sym (p.1 h) ∙ not-true b e),
  λ f. ap not (not_so b (λ e. f (p.0 e))),
)

means_less : (a b : ℕ) → Means (ltb a b) (a < b)
means_less a b = (ltb-true a b, lt-ltb a b)

means_equal : (a b : ℕ) → Means (eqb a b) (a ≡ b)
means_equal a b = (eqb-true a b, eq-eqb a b)

means_any : {P : ℕ → Type 0} (f : ℕ → Bool) (n : ℕ) → ((i : ℕ) → Means (f i) (P i))
    → Means (any_below f n) ((i : ℕ) × (i < n) × P i)
means_any f n p = (
  λ e. let x = any_at f n e in (x.0, x.1, (p x.0).0 x.2),
  λ h. any_make f n h.0 h.1 ((p h.0).1 h.2),
)

-- ---- the rows

one : (l : List ℕ) → Means (bad_image (length l)) (BadLength l)
unfolding bad_image
one l =
    means_or _ _ (means_equal (length l) 0)
    (means_or _ _ (means_less 65536 (length l)) (means_not _ (means_equal (length l % 256) 0)))

eight : (l ks vs : List ℕ) → Means (is_short (blocks l) (length ks) (length vs)) (ShortBuffer l ks vs)
eight l ks vs = means_or _ _ (means_less (length ks) (blocks l)) (means_less (length vs) (blocks l))

-- an image whose length is good
module _ (l : List ℕ) (fine : bad_image (length l) ≡ false) where
  sound_means : Means (is_sound l) (SoundImage l)
  sound_means = (test_sound l fine, sound_test l fine)

  three : Means (not (is_sound l)) (Unsound l)
  three = means_not (is_sound l) sound_means

  module _ (passed : not (is_sound l) ≡ false) (k : ℕ) where
    S : SoundImage l
    S = test_sound l fine (not-false (is_sound l) passed)

    chain_is : chain_of l ≡ S.chain
    chain_is = sound_chain l S.chain fine S.sound

    four : Means (not (is_none (lookup k (entries_in l)))) (Present l k)
    four = (λ e. go (lookup k (entries_in l)) refl e, λ h. ap (λ (v : Option ℕ). not (is_none v)) (there h))
      where
        there : (h : Present l k) → lookup k (entries_in l) ≡ Some h.0
        there h =
            lookup_some k (entries_list l fine S) h.0
            (subst (λ (bs : List ℕ). Has (leaves l) bs k h.0) chain_is h.1)

        go : (v : Option ℕ) → lookup k (entries_in l) ≡ v → not (is_none v) ≡ true → Present l k
        go (Some v) q e =
            (v, subst (λ (bs : List ℕ). Has (leaves l) bs k v) (sym chain_is) (some_lookup k (entries_list l fine S) v q))
        go None q e = differ (sym e)

    five : Means (is_none (lookup k (entries_in l))) (Absent l k)
    five = let x = means_not _ four in (λ e. x.0 (ap (λ (b : Bool). not (not b)) e), λ f. not_not _ (x.1 f))
      where
        not_not : (b : Bool) → not (not b) ≡ true → b ≡ true
        not_not true e = refl
        not_not false e = e

full_means : (l : List ℕ) (b : ℕ) → Means (is_full (leaves l b)) ((s : ℕ) → s < 14 → Taken (leaves l b) s)
unfolding count
full_means l b = (
  λ e s h. by_test (λ t. L.occ s ≡ true) (L.occ s) (λ q. q)
      (λ q. absurd (omega (arith, count_less L.occ L.size s (omega (arith, z)) q, eqb-true (count L) L.size e))),
  λ f. eq-eqb (count L) L.size (count_all L.occ L.size (λ s h. f s (omega (arith, z)))),
)
  where
    L : Leaf
    L = leaves l b

    z : L.size ≡ 14
    z = view_size (reads l) b

among_means : (b : ℕ) (xs : List ℕ) → Means (is_among b xs) (Among b xs)
among_means b [] = (λ e. differ (sym e), λ h. absurd h)
among_means b (x ∷ xs) = (
  λ e. by_test (λ t. cond t true (is_among b xs) ≡ true → Among b (x ∷ xs)) (eqb x b)
      (λ q w. inl (eqb-true x b q)) (λ q w. inr ((among_means b xs).0 w)) e,
  λ h. elim h [
    | inl p ↦ ap (λ (t : Bool). cond t true (is_among b xs)) (eq-eqb x b p)
    | inr p ↦ by_test (λ t. cond t true (is_among b xs) ≡ true) (eqb x b) (λ q. refl) (λ q. (among_means b xs).1 p)
  ],
)

chained_means : (l : List ℕ) → Means (is_none (free_of l)) ((b : ℕ) → b < blocks l → Among b (chain_of l))
chained_means l = (λ e b h. to (free_of l) refl e b h, λ f. back (free_of l) refl f)
  where
    to : (x : Option ℕ) → free_of l ≡ x → is_none x ≡ true → (b : ℕ) → b < blocks l → Among b (chain_of l)
    to (Some c) q e b h = differ (sym e)
    to None q e b h =
        (among_means b (chain_of l)).0
        (not-false (is_among b (chain_of l))
        (lowest_none (λ b. not (is_among b (chain_of l))) (blocks l) 0 q b (omega arith) (omega arith)))

    back : (x : Option ℕ) → free_of l ≡ x → ((b : ℕ) → b < blocks l → Among b (chain_of l)) → is_none x ≡ true
    back (Some c) q f =
        let r = lowest_at (λ b. not (is_among b (chain_of l))) (blocks l) 0 c q in
        differ (sym ((among_means c (chain_of l)).1 (f c (omega (arith, r.below)))) ∙ not-true (is_among c (chain_of l)) r.passes)
    back None q f = refl

six : (l : List ℕ) (k : ℕ) → Means (both (is_full (leaves l (target_of l k))) (is_none (free_of l))) (Full l k)
six l k = means_both _ _ (full_means l (target_of l k)) (chained_means l)

-- the steps of an image that is not too long
module _ (z : ℕ) (list : List ℕ) (n : ℕ) (small : z ≤ 65536) where
  malformed_means : (i : ℕ) → Means (malformed z list i) (Malformed z list i)
  malformed_means i = (
    λ e x inside p q. differ
        (sym (subst (λ (b : ℕ). well_formed z (get_or list (2 * i) 0) b ≡ true) q
        (subst (λ (a : ℕ). well_formed z a (second x) ≡ true) p (words_formed z x small inside)))
        ∙ not-true (formed_at z list i) e),
    λ f. ap not (not_so (formed_at z list i) (λ e.
        let P = pair_of z (step_at list i) (get_or list (2 * i) 0) (get_or list (2 * i + 1) 0) e in
        f (step_at list i) P.inside P.first_is P.second_is)),
  )

  seven : Means (bad_list z list n) (BadSteps z list n)
  unfolding bad_list
  seven =
      means_or _ _ (means_less 56 n)
      (means_or _ _ (means_less (length list) (2 * n)) (means_any (malformed z list) n malformed_means))

ten : (z : ℕ) (list : List ℕ) (n : ℕ) (arrivals : List ℕ) → Means (bad_arrivals z list n arrivals) (BadArrivals z list n arrivals)
unfolding bad_arrivals
ten z list n arrivals =
    means_or _ _ (means_not _ (means_equal (length arrivals) (z / 64)))
    (means_any (outside list n arrivals) (z / 64) (λ x.
    means_or _ _ (means_less (arrived arrivals x) (settled line rule01 (step_at list) n x))
    (means_less (made line (step_at list) n x) (arrived arrivals x))))

-- ---- the tables

-- the numbers are the same, and each test is its sentence where those before it are passed
abbrev pub Match : List (ℕ × Bool) → Rows → Type 0
Match [] [] = Unit {0}
Match [] (c ∷ cs) = ⊥
Match (r ∷ rs) [] = ⊥
Match (r ∷ rs) (c ∷ cs) = (r.0 ≡ c.0) × Means r.1 c.1 × (r.1 ≡ false → Match rs cs)

pub matched : (asked : Asked) → Match (table asked) (conditions asked)
matched (find l k) = (refl, one l, λ f. (refl, three l f, λ s. (refl, five l f s k, λ p. tt)))
matched (listing l from keys values) = (refl, one l, λ f. (refl, three l f, λ s. tt))
matched (recovery l ks vs) = (refl, one l, λ f. (refl, eight l ks vs, λ w. (refl, three l f, λ s. tt)))
matched (put l list k v) = (
  refl,
  one l,
  λ f. (
    refl,
    means_less (length list) 112,
    λ w.
        (refl, three l f, λ s. (refl, four l f s k, λ a. (refl, six l k, λ p. tt))),
  ),
)
matched (set l list k v) =
    (refl, one l, λ f. (refl, means_less (length list) 112, λ w. (refl, three l f, λ s. (refl, five l f s k, λ p. tt))))
matched (del l list k) =
    (refl, one l, λ f. (refl, means_less (length list) 112, λ w. (refl, three l f, λ s. (refl, five l f s k, λ p. tt))))
matched (run l list n) = (refl, one l, λ f. (refl, seven (length l) list n (long_enough l f).1, λ p. tt))
matched (cut l list n arrivals) =
    (refl, one l, λ f. (refl, seven (length l) list n (long_enough l f).1, λ p. (refl, ten (length l) list n arrivals, λ q. tt)))
