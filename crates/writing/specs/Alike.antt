-- What put, set and del refuse alike: the first rows of their tables. And what is known where none of these applies.
use Rattle.std.specs.Prelude.{◌≡◌, Bool, not, List, ◌∷◌, ℕ, ◌+◌, ◌*◌, ◌<◌, ◌≤◌, false, length}
use Rattle.steps.specs.Refusals.{answer, bad_image, number_of}
use Rattle.steps.specs.declared.refusal.Refusal.{Refusal}
use Rattle.survey.specs.Walk.{State, surveyed}
use Rattle.image.specs.Image.{blocks, leaves}
use Rattle.index.specs.Reading.{is_sound}
use Rattle.writing.specs.Writing.{short_list}

abbrev pub alike : List ℕ → List ℕ → List (ℕ × Bool) → List (ℕ × Bool)
alike l list others = (1, bad_image (length l)) ∷ (2, short_list list) ∷ (3, not (is_sound l)) ∷ others

-- one of them is given, whatever the others are
pub record RefusedAlike (l list : List ℕ) (refusal : Refusal) : Type 0 where
  pub given : (others : List (ℕ × Bool)) → answer (alike l list others) ≡ number_of refusal

-- the walk for a key, of a sound image, beside a list that has room
pub record Walked (l list : List ℕ) (key : ℕ) (walk : State) : Type 0 where
  pub good : bad_image (length l) ≡ false
  pub room : 112 ≤ length list
  pub is : walk ≡ surveyed (leaves l) (blocks l) key
  pub ended : walk.stage ≡ 1
  pub small : length l ≤ 65536
  pub target_inside : 256 * walk.target + 256 ≤ length l
  pub target_near : walk.target < 256
  pub before_inside : 256 * walk.before + 256 ≤ length l
  pub before_near : walk.before < 256
