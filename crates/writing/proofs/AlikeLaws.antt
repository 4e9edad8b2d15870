-- What put, set and del refuse alike, and what their tables are then left with.
use Rattle.std.specs.Prelude.{◌≡◌, Bool, false, not, List, ℕ, eqb, length, Err, Result, MatchResult}
use Rattle.std.proofs.Common.{sym, ap, ◌∙◌, arith, refl, ltb-false, le-ltb}
use Rattle.std.proofs.lemmas.Result.{MatchResult-weaker}
use Rattle.std.proofs.lemmas.Bool.{eqb-false}
use Rattle.steps.specs.declared.Step.{Step}
use Rattle.steps.specs.declared.refusal.Refusal.{Refusal}
use Rattle.steps.specs.declared.refusal.Refusal.TheVariants.{
  BadImage,
  ShortList,
  Unsound,
  Present,
  Absent,
  Full,
  BadList,
  ShortBuffer,
  BadArrivals,
}
use Rattle.steps.specs.Refusals.{answer, bad_image, number_of}
use Rattle.steps.proofs.Refusals.{row_given, row_left}
use Rattle.survey.specs.Walk.{State, state_of, surveyed}
use Rattle.survey.specs.declared.walk.Walk.{Walk}
use Rattle.image.specs.Image.{blocks, leaves}
use Rattle.index.proofs.SoundTest.{says_yes, says_no, long_enough, noted_bounds, block_inside}
use Rattle.writing.specs.Writing.{outcome, made_as, short_list}
use Rattle.writing.specs.Alike.{alike, RefusedAlike, Walked}

-- ---- refused

-- "A refusal tells 0 for every count and value and changes no buffer."
told_refused : (refusal : Refusal) (made : List Step) (list : List ℕ) → made_as (Err refusal) list ≡ outcome (number_of refusal) made list
told_refused BadImage made list = refl
told_refused ShortList made list = refl
told_refused Unsound made list = refl
told_refused Present made list = refl
told_refused Absent made list = refl
told_refused Full made list = refl
told_refused BadList made list = refl
told_refused ShortBuffer made list = refl
told_refused BadArrivals made list = refl

module _ (l list : List ℕ) where
  pub refused_told : (refusal : Refusal) (others : List (ℕ × Bool)) (made : List Step) → RefusedAlike l list refusal
      → made_as (Err refusal) list ≡ outcome (answer (alike l list others)) made list
  refused_told refusal others made r =
      told_refused refusal made list ∙ ap (λ (n : ℕ). outcome n made list) (sym (r.given others))

  module _ (key : ℕ) (walk : Walk) (is : state_of walk ≡ surveyed (leaves l) (blocks l) key) (good : bad_image (length l) ≡ false)
      (room : short_list list ≡ false) where
    walk_refused : eqb (state_of walk).stage 1 ≡ false → RefusedAlike l list Unsound
    walk_refused e =
        let no = says_no l key good (λ q. eqb-false (state_of walk).stage 1 e (ap (λ (s : State). s.stage) is ∙ q)) in
        record { given = λ others. row_left 1 _ good ∙ row_left 2 _ room ∙ row_given 3 _ (ap not no) }

    walked : (state_of walk).stage ≡ 1 → Walked l list key (state_of walk)
    walked e =
        let near = long_enough l good in
        let bounds = noted_bounds l key good in
        let t : walk.end.target ≡ (surveyed (leaves l) (blocks l) key).target = ap (λ (s : State). s.target) is in
        let b : walk.end.before ≡ (surveyed (leaves l) (blocks l) key).before = ap (λ (s : State). s.before) is in
        record {
          good = good;
          room = ltb-false (length list) 112 room;
          is = is;
          ended = e;
          small = near.1;
          target_inside = block_inside l walk.end.target good (omega (arith, t, bounds.target));
          target_near = omega (arith, t, bounds.target, near.1);
          before_inside = block_inside l walk.end.before good (omega (arith, b, bounds.before));
          before_near = omega (arith, b, bounds.before, near.1);
        }

    -- by what the walk says of the image
    pub walk_judged : (r : Result Walk Refusal)
        → MatchResult r (λ w. (w ≡ walk) × ((state_of walk).stage ≡ 1)) (λ e. (eqb (state_of walk).stage 1 ≡ false) × (e ≡ Unsound))
        → MatchResult r (λ w. Walked l list key (state_of w)) (λ e. RefusedAlike l list e)
    walk_judged r m = MatchResult-weaker r m (λ w h. rw h.0 (walked h.1)) (λ e h. rw h.1 (walk_refused h.0))

-- ---- where none applies

-- the tables are left with their other rows
pub others_left : {l list : List ℕ} {key : ℕ} {walk : State} → Walked l list key walk → (others : List (ℕ × Bool))
    → answer others ≡ answer (alike l list others)
others_left {l} {list} {key} w others =
    let sound = says_yes l key w.good (sym (ap (λ (s : State). s.stage) w.is) ∙ w.ended) in
    sym (row_left 1 _ w.good ∙ row_left 2 _ (le-ltb (length list) 112 w.room) ∙ row_left 3 _ (ap not sound))
