-- Each answer of put, from the tests that led to it.
use Rattle.std.specs.Prelude.{◌≡◌, Bool, true, false, cond, List, [], ◌∷◌, ◌≢◌, ℕ, eqb, length, Option, Some, None, Err, is_some}
use Rattle.std.specs.Option.{unwrap_or}
use Rattle.std.proofs.Math.Path.{refl}
use Rattle.std.proofs.Common.{sym, ap, ◌∙◌, subst, arith, eq-eqb, ne_eqb, eqb-true}
use Rattle.std.proofs.Math.Bool.{not}
use Rattle.std.proofs.lemmas.Bool.{eqb-false}
use Rattle.words.specs.Words.{reads}
use Rattle.words.specs.Bools.{both, by_test, differ, not_so}
use Rattle.words.specs.Below.{count_below}
use Rattle.words.specs.BelowLaws.{count_all, count_less}
use Rattle.leaf.specs.Leaf.{Right, occ_in, view}
use Rattle.leaf.specs.Search.{lowest, lowest_vacant, slot_of, count}
use Rattle.leaf.proofs.SearchLaws.{lowest_same, vacant_at, vacant_none}
use Rattle.steps.specs.declared.Step.{Step}
use Rattle.steps.specs.declared.refusal.Refusal.{Refusal}
use Rattle.steps.specs.declared.refusal.Refusal.TheVariants.{Present}
use Rattle.steps.specs.Refusals.{answer, bad_image}
use Rattle.survey.specs.Marks.{is_in}
use Rattle.survey.specs.Walk.{State, surveyed}
use Rattle.image.specs.Chain.{All, Starts}
use Rattle.image.specs.ChainLaws.{Good}
use Rattle.image.proofs.ChainLaws.{all_split, sound_good}
use Rattle.image.specs.Map.{lookup}
use Rattle.image.specs.Answers.{value_at}
use Rattle.image.specs.Image.{blocks, leaves}
use Rattle.index.specs.Reading.{entries_in, is_none}
use Rattle.index.proofs.SoundTest.{Surveyed, survey_sound, sound_chain, noted_around}
use Rattle.lists.specs.Lists.{head_in}
use Rattle.lists.specs.FullLists.{put_into, put_list}
use Rattle.writing.specs.Writing.{target_of, is_among, free_of, Outcome, outcome, made_as, is_full, put_of}
use Rattle.writing.specs.Alike.{RefusedAlike, Walked}
use Rattle.writing.proofs.AlikeLaws.{refused_told, others_left}
use Rattle.writing.proofs.ChangeLaws.{target_is, value_is}

-- ---- the lowest free block

among_met : (f : ℕ → Bool) (b : ℕ) (xs : List ℕ) → All (λ x. f x ≡ true) xs → is_among b xs ≡ true → f b ≡ true
among_met f b [] a e = differ (sym e)
among_met f b (x ∷ xs) a e =
    by_test (λ t. cond t true (is_among b xs) ≡ true → f b ≡ true) (eqb x b)
    (λ q z. sym (ap f (eqb-true x b q)) ∙ a.0)
    (λ q z. among_met f b xs a.1 z)
    e

pub not_among : (b : ℕ) (xs : List ℕ) → is_among b xs ≡ false → All (λ x. x ≢ b) xs
not_among b [] e = tt
not_among b (x ∷ xs) e =
    by_test (λ t. cond t true (is_among b xs) ≡ false → (x ≢ b) × All (λ y. y ≢ b) xs) (eqb x b)
    (λ q z. differ z)
    (λ q z. (eqb-false x b q, not_among b xs z))
    e

first_among : (xs : List ℕ) → Starts xs → is_among 0 xs ≡ true
first_among [] s = absurd s
first_among (x ∷ xs) s = rw (eq-eqb x 0 s)

module _ (l : List ℕ) (k : ℕ) (fine : bad_image (length l) ≡ false) (e : (surveyed (leaves l) (blocks l) k).stage ≡ 1) where
  -- the blocks met are those of the chain
  met_among : (b : ℕ) → (surveyed (leaves l) (blocks l) k).met b ≡ is_among b (survey_sound l k fine e).chain
  met_among b =
      by_test (λ t. (surveyed (leaves l) (blocks l) k).met b ≡ t) (is_among b s.chain)
      (among_met (surveyed (leaves l) (blocks l) k).met b s.chain s.notes.met_all)
      (λ q. not_so ((surveyed (leaves l) (blocks l) k).met b) (λ m.
      s.notes.met_only b m (λ z. differ
      (sym (first_among s.chain s.sound.starts) ∙ ap (λ (c : ℕ). is_among c s.chain) (sym (z ∙ s.ended)) ∙ q))
      (not_among b s.chain q)))
    where
      s : Surveyed l k
      s = survey_sound l k fine e

  pub noted_free : lowest (λ b. not ((surveyed (leaves l) (blocks l) k).met b)) (blocks l) 0 ≡ free_of l
  noted_free =
      let s = survey_sound l k fine e in
      lowest_same (λ b. not ((surveyed (leaves l) (blocks l) k).met b)) (λ b. not (is_among b s.chain)) (blocks l) 0
      (λ b x y. ap not (met_among b))
      ∙ ap (λ (bs : List ℕ). lowest (λ b. not (is_among b bs)) (blocks l) 0) (sym (sound_chain l s.chain fine s.sound))

  -- the target leaf is right, and was met
  pub target_right : Right (leaves l (surveyed (leaves l) (blocks l) k).target)
  target_right =
      let a = noted_around l k fine e in
      let b = (surveyed (leaves l) (blocks l) k).target in
      (all_split (Good (leaves l) (blocks l)) a.front (b ∷ a.behind) (sound_good (leaves l) (blocks l) a.sound)).1.0.right

  pub target_met : (surveyed (leaves l) (blocks l) k).met (surveyed (leaves l) (blocks l) k).target ≡ true
  target_met =
      let a = noted_around l k fine e in
      let s = survey_sound l k fine e in
      let st = surveyed (leaves l) (blocks l) k in
      (all_split (λ x. st.met x ≡ true) a.front (st.target ∷ a.behind)
      (subst (All (λ x. st.met x ≡ true)) (sym (sound_chain l s.chain fine s.sound) ∙ a.whole) s.notes.met_all)
      ).1.0

-- ---- a full leaf is one without a vacant slot

pub full_vacant : (w : ℕ → ℕ) (b : ℕ) → is_full (view w b) ≡ is_none (lowest_vacant (occ_in (head_in w b)) 14)
unfolding view count
full_vacant w b = by (lowest_vacant (occ_in (head_in w b)) 14) refl
  where
    by : (x : Option ℕ) → lowest_vacant (occ_in (head_in w b)) 14 ≡ x → eqb (count_below (occ_in (head_in w b)) 14) 14 ≡ is_none x
    by (Some s) e =
        let r = vacant_at (occ_in (head_in w b)) 14 s e in
        ne_eqb (count_below (occ_in (head_in w b)) 14) 14 (λ q. omega (arith, count_less (occ_in (head_in w b)) 14 s r.0 r.1))
    by None e =
        eq-eqb (count_below (occ_in (head_in w b)) 14) 14 (count_all (occ_in (head_in w b)) 14 (vacant_none (occ_in (head_in w b)) 14 e))

-- a block that is out of the set is none that is in it
pub out_apart : (n : List ℕ) (b c : ℕ) → is_in n b ≡ true → not (is_in n c) ≡ true → b ≢ c
out_apart n b c has lacks = λ q. differ (sym lacks ∙ ap not (ap (is_in n) (sym q) ∙ has))

-- ---- put, by the slot of the key, the lowest vacant slot and the lowest free block

pub put_refused : {l list : List ℕ} {refusal : Refusal} → RefusedAlike l list refusal → (k v : ℕ) → made_as (Err refusal) list ≡ put_of l list k v
unfolding put_of
put_refused {l} {list} {refusal} r k v =
    refused_told l list refusal
    ((4, not (is_none (lookup k (entries_in l)))) ∷ (6, both (is_full (leaves l (target_of l k))) (is_none (free_of l))) ∷ [])
    (put_list (reads l) (target_of l k) (unwrap_or (free_of l) 0) k v)
    r

module _ {l list : List ℕ} {k : ℕ} {w : State} (W : Walked l list k w) where
  ended : (surveyed (leaves l) (blocks l) k).stage ≡ 1
  ended = sym (ap (λ (s : State). s.stage) W.is) ∙ W.ended

  free_is : lowest (λ b. not (w.met b)) (blocks l) 0 ≡ free_of l
  free_is = ap (λ (s : State). lowest (λ b. not (s.met b)) (blocks l) 0) W.is ∙ noted_free l k W.good ended

  pub put_right : Right (leaves l w.target)
  put_right = subst (λ (b : ℕ). Right (leaves l b)) (sym (ap (λ (s : State). s.target) W.is)) (target_right l k W.good ended)

  pub put_met : w.met w.target ≡ true
  put_met = ap (λ (s : State). s.met s.target) W.is ∙ target_met l k W.good ended

  -- what is answered and made, by the three
  abbrev by : Option ℕ → Option ℕ → Option ℕ → ℕ → ℕ → Outcome
  by x y z b v =
      outcome (answer ((4, not (is_none (value_at (leaves l (target_of l k)) x))) ∷ (6, both (is_none y) (is_none z)) ∷ []))
      (put_into y (reads l) b (unwrap_or z 0) k v)
      list

  pub put_by : (v : ℕ) (x y z : Option ℕ) → slot_of (leaves l w.target) k ≡ x
      → lowest_vacant (occ_in (head_in (reads l) w.target)) 14 ≡ y → lowest (λ b. not (w.met b)) (blocks l) 0 ≡ z
      → by x y z w.target v ≡ put_of l list k v
  unfolding put_of put_list
  put_by v x y z ex ey ez =
      let vacant : y ≡ lowest_vacant (occ_in (head_in (reads l) (target_of l k))) 14 =
      sym ey ∙ ap (λ (b : ℕ). lowest_vacant (occ_in (head_in (reads l) b)) 14) (target_is W) in
      let free : z ≡ free_of l = sym ez ∙ free_is in
      (λ i. by x (vacant i) (free i) (target_is W i) v)
      ∙ (λ i. outcome
      (answer ((4, not (is_none (value_is W x ex i))) ∷
      (6, both (sym (full_vacant (reads l) (target_of l k)) i) (is_none (free_of l))) ∷ []))
      made list)
      ∙ ap (λ (n : ℕ). outcome n made list)
      (others_left W
      ((4, not (is_none (lookup k (entries_in l)))) ∷
      (6, both (is_full (leaves l (target_of l k))) (is_none (free_of l))) ∷ []))
    where
      made : List Step
      made = put_list (reads l) (target_of l k) (unwrap_or (free_of l) 0) k v

  pub put_present : (v : ℕ) (x : Option ℕ) → slot_of (leaves l w.target) k ≡ x → is_some x ≡ true → made_as (Err Present) list ≡ put_of l list k v
  put_present v (Some t) e h = put_by v (Some t) _ _ e refl refl
  put_present v None e h = differ (sym h)
