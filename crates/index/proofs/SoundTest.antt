-- The test `is_sound` is image's `SoundImage`, whatever key the survey was told; and then the survey's notes are those of the chain.
use Rattle.std.specs.Prelude.{◌≡◌, Bool, true, false, cond, List, [], ◌∷◌, ◌++◌, ◌≢◌, ℕ, zero, suc, ◌+◌, ◌*◌, ◌≤◌, ◌<◌, eqb, length}
use Rattle.std.proofs.Common.{sym, ap, ◌∙◌, subst, inl, inr, arith, length-append}
use borrow.Author.Tests.{eq-eqb, ne_eqb, eqb-true}
use Rattle.std.proofs.lemmas.Bool.{eqb-false}
use Rattle.words.specs.Words.{reads}
use Rattle.leaf.specs.Leaf.{Leaf, Taken}
use Rattle.steps.specs.Refusals.{bad_image}
use Rattle.survey.specs.declared.walk.Walk.{Walk}
use Rattle.survey.specs.Walk.{State, state_of, surveyed}
use Rattle.survey.specs.Turns.{Bounded, surveyed_bounded}
use Rattle.image.specs.Chain.{All, Links, Sound}
use Rattle.image.proofs.ChainLaws.{all_split, links_split}
use Rattle.image.proofs.ChainSize.{Later, chain_short, chain_near, sound_later}
use Rattle.image.specs.Image.{blocks, leaves, SoundImage}
use Rattle.image.proofs.ImageLaws.{good_length}
use Rattle.image.proofs.Blocks.{view_slot, view_size}
use Rattle.image.specs.Target.{Target}
use Rattle.verdict.specs.Notes.{Notes, Aim, nowhere, here, last_of}
use Rattle.verdict.proofs.Verdict.{says_sound, sound_says}
use Rattle.index.specs.Reading.{is_sound, chain_from, chain_of}

inside : (l : List ℕ) (b s : ℕ) → Taken (leaves l b) s → s < (leaves l b).size
inside l b s t = rw (view_size (reads l) b) (view_slot (reads l) b s t)

-- what the survey of a sound image has found
pub record Surveyed (l : List ℕ) (key : ℕ) : Type 0 where
  pub chain : List ℕ
  pub sound : Sound (leaves l) (blocks l) chain
  pub notes : Notes (leaves l) (blocks l) key chain (surveyed (leaves l) (blocks l) key)
  pub ended : (surveyed (leaves l) (blocks l) key).at ≡ 0

module _ (l : List ℕ) (key : ℕ) (fine : bad_image (length l) ≡ false) where
  pub survey_sound : (surveyed (leaves l) (blocks l) key).stage ≡ 1 → Surveyed l key
  survey_sound e =
      let r = says_sound (leaves l) (blocks l) key (inside l) e in record { chain = r.0; sound = r.1; notes = r.2; ended = r.3 }

  pub sound_survey : SoundImage l → (surveyed (leaves l) (blocks l) key).stage ≡ 1
  sound_survey S = sound_says (leaves l) (blocks l) key (inside l) (good_length l fine).some S.chain S.sound

pub test_sound : (l : List ℕ) → bad_image (length l) ≡ false → is_sound l ≡ true → SoundImage l
unfolding is_sound
test_sound l fine e =
    let s = survey_sound l 0 fine (eqb-true (surveyed (leaves l) (blocks l) 0).stage 1 e) in
    record { chain = s.chain; sound = s.sound }

pub sound_test : (l : List ℕ) → bad_image (length l) ≡ false → SoundImage l → is_sound l ≡ true
unfolding is_sound
sound_test l fine S = eq-eqb (surveyed (leaves l) (blocks l) 0).stage 1 (sound_survey l 0 fine S)

-- a survey for any key gives the test's answer
module _ (l : List ℕ) (key : ℕ) (fine : bad_image (length l) ≡ false) where
  pub says_yes : (surveyed (leaves l) (blocks l) key).stage ≡ 1 → is_sound l ≡ true
  says_yes e = let s = survey_sound l key fine e in sound_test l fine (record { chain = s.chain; sound = s.sound })

  pub says_no : ((surveyed (leaves l) (blocks l) key).stage ≡ 1 → ⊥) → is_sound l ≡ false
  unfolding is_sound
  says_no ne = ne_eqb (surveyed (leaves l) (blocks l) 0).stage 1 (λ e.
      let s = survey_sound l 0 fine e in ne (sound_survey l key fine (record { chain = s.chain; sound = s.sound })))

-- what the check of the survey's walk says of the survey
module _ (l : List ℕ) (key : ℕ) (w : Walk) (told : state_of w ≡ surveyed (leaves l) (blocks l) key) where
  pub walk_sound : (state_of w).stage ≡ 1 → (surveyed (leaves l) (blocks l) key).stage ≡ 1
  walk_sound e = sym (ap (λ (st : State). st.stage) told) ∙ e

  pub walk_unsound : eqb (state_of w).stage 1 ≡ false → (surveyed (leaves l) (blocks l) key).stage ≡ 1 → ⊥
  walk_unsound e z = eqb-false (state_of w).stage 1 e (ap (λ (st : State). st.stage) told ∙ z)

-- ---- the chain as the function finds it

chain_is : (I : ℕ → Leaf) (n b : ℕ) (bs : List ℕ) → All (λ x. x ≢ 0) bs → Links I (I b).next bs 0 → length bs < n
    → chain_from I n b ≡ b ∷ bs
unfolding chain_from
chain_is I zero b bs z l h = absurd (omega arith)
chain_is I (suc n) b [] z l h = ap (λ (t : Bool). b ∷ cond t [] (chain_from I n (I b).next)) (eq-eqb (I b).next 0 l)
chain_is I (suc n) b (c ∷ bs) z l h =
    ap (λ (t : Bool). b ∷ cond t [] (chain_from I n (I b).next)) (ne_eqb (I b).next 0 (λ e. z.0 (sym l.0 ∙ e)))
    ∙ ap (λ (x : ℕ). b ∷ chain_from I n x) l.0 ∙ ap (λ (cs : List ℕ). b ∷ cs) (chain_is I n c bs z.1 l.1 (omega arith))

pub sound_chain : (l : List ℕ) (bs : List ℕ) → bad_image (length l) ≡ false → Sound (leaves l) (blocks l) bs → chain_of l ≡ bs
unfolding chain_of
sound_chain l [] fine S = absurd S.starts
sound_chain l (b ∷ bs) fine S =
    let pos : 0 < blocks l = (good_length l fine).some in
    let short = chain_short (leaves l) (blocks l) (b ∷ bs) S pos in
    ap (chain_from (leaves l) (blocks l)) (sym S.starts)
    ∙ chain_is (leaves l) (blocks l) b bs (sound_later (leaves l) (blocks l) (b ∷ bs) S) S.links.1 (omega arith)

-- ---- the target

-- the chain around the target that the survey noted
pub record Aimed (I : ℕ → Leaf) (key : ℕ) (bs : List ℕ) (target before : ℕ) : Type 0 where
  pub front : List ℕ
  pub behind : List ℕ
  pub whole : bs ≡ front ++ (target ∷ behind)
  pub target_is : Target I target behind key
  pub before_is : (target ≡ 0 → ⊥) → before ≡ last_of front

pub aim_target : (I : ℕ → Leaf) (N key : ℕ) (bs : List ℕ) (target before : ℕ) → Sound I N bs → Aim I key bs target before
    → Aimed I key bs target before
aim_target I N key [] target before S a = absurd S.starts
aim_target I N key (b ∷ bs) target before S (nowhere f z) = record {
  front = [];
  behind = bs;
  whole = ap (λ (x : ℕ). x ∷ bs) (S.starts ∙ sym z);
  target_is = record { low = inl z; high = λ j u h. f j u (inr h) };
  before_is = λ ne. absurd (ne z);
}
aim_target I N key (b ∷ bs) target before S (here ys zs e p r f) = record {
  front = ys;
  behind = zs;
  whole = e;
  target_is = record { low = inr r; high = f };
  before_is = λ ne. p;
}

later_part : (front : List ℕ) (b : ℕ) (behind : List ℕ) → Later (front ++ (b ∷ behind)) → All (λ x. x ≢ 0) behind
later_part [] b behind h = h
later_part (x ∷ xs) b behind h = (all_split (λ y. y ≢ 0) xs (b ∷ behind) h).1.1

-- the way from a chained block on is the rest of the chain
chain_ahead : (l : List ℕ) (front : List ℕ) (b : ℕ) (behind : List ℕ) → bad_image (length l) ≡ false
    → Sound (leaves l) (blocks l) (front ++ (b ∷ behind)) → chain_from (leaves l) (blocks l) b ≡ b ∷ behind
chain_ahead l front b behind fine S =
    let short = chain_short (leaves l) (blocks l) (front ++ (b ∷ behind)) S (good_length l fine).some in
    chain_is (leaves l) (blocks l) b behind
    (later_part front b behind (sound_later (leaves l) (blocks l) (front ++ (b ∷ behind)) S))
    (links_split (leaves l) 0 front (b ∷ behind) 0 S.links).2.1
    (omega (arith, length-append front (b ∷ behind)))

-- the chain of a sound image around the block b that a survey for the key has noted
pub record Around (l : List ℕ) (key b : ℕ) : Type 0 where
  pub front : List ℕ
  pub behind : List ℕ
  pub sound : Sound (leaves l) (blocks l) (front ++ (b ∷ behind))
  pub whole : chain_of l ≡ front ++ (b ∷ behind)
  pub target_is : Target (leaves l) b behind key
  pub ahead : chain_from (leaves l) (blocks l) b ≡ b ∷ behind
  pub near : All (λ c. c < blocks l) (b ∷ behind)

pub noted_around : (l : List ℕ) (key : ℕ) → bad_image (length l) ≡ false → (surveyed (leaves l) (blocks l) key).stage ≡ 1
    → Around l key (surveyed (leaves l) (blocks l) key).target
noted_around l key fine e =
    let s = survey_sound l key fine e in
    let st = surveyed (leaves l) (blocks l) key in
    let a = aim_target (leaves l) (blocks l) key s.chain st.target st.before s.sound s.notes.aim in
    let S = subst (Sound (leaves l) (blocks l)) a.whole s.sound in
    let near = chain_near (leaves l) (blocks l) (a.front ++ (st.target ∷ a.behind)) S (good_length l fine).some in
    record {
      front = a.front;
      behind = a.behind;
      sound = S;
      whole = sound_chain l s.chain fine s.sound ∙ a.whole;
      target_is = a.target_is;
      ahead = chain_ahead l a.front st.target a.behind fine S;
      near = (all_split (λ c. c < blocks l) a.front (st.target ∷ a.behind) near).1;
    }

-- ---- bounds that the code asks for

pub long_enough : (l : List ℕ) → bad_image (length l) ≡ false → (256 ≤ length l) × (length l ≤ 65536)
long_enough l fine = let z = good_length l fine in (omega (arith, z.whole, z.some), omega (arith, z.whole, z.most))

-- the blocks that a survey notes are of the image
pub noted_bounds : (l : List ℕ) (key : ℕ) → bad_image (length l) ≡ false
    → Bounded (blocks l) (blocks l) (surveyed (leaves l) (blocks l) key)
noted_bounds l key fine = surveyed_bounded (reads l) (blocks l) key (good_length l fine).some

pub block_inside : (l : List ℕ) (b : ℕ) → bad_image (length l) ≡ false → b < blocks l → 256 * b + 256 ≤ length l
block_inside l b fine h = let z = good_length l fine in omega (arith, z.whole)
