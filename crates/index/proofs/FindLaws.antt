-- Each answer of find, from the tests that led to it.
use Rattle.std.specs.Prelude.{◌≡◌, refl, Bool, true, false, cond, not, List, [], ◌∷◌, ℕ, eqb, length, Option, Some, None, Err}
use Rattle.std.proofs.Common.{sym, ap, ◌∙◌}
use Rattle.leaf.specs.Leaf.{Leaf}
use Rattle.leaf.specs.Search.{slot_of}
use Rattle.steps.specs.Refusals.{answer, bad_image}
use Rattle.image.specs.Map.{lookup}
use Rattle.image.specs.Entries.{list_of}
use Rattle.image.specs.Answers.{value_at}
use Rattle.image.proofs.Answers.{find_lookup}
use Rattle.image.specs.Image.{blocks, leaves}
use Rattle.survey.specs.Walk.{surveyed}
use Rattle.index.specs.Reading.{is_sound, entries_in, Told, told, found_as, is_none, value_or0, find_of}
use Rattle.index.proofs.SoundTest.{says_yes, says_no, noted_around}
use Rattle.steps.specs.declared.refusal.Refusal.TheVariants.{BadImage, Unsound}
use Rattle.index.specs.FindLaws.{found_at}

-- the answer by the three tests
abbrev pub find_by : Bool → Bool → Option ℕ → Told
find_by bad sound v =
    let n = answer ((1, bad) ∷ (3, not sound) ∷ (5, is_none v) ∷ []) in told n (cond (eqb n 0) (value_or0 v) 0)

-- the map's answer at k is that of the leaf that the survey noted
pub noted_lookup : (l : List ℕ) (k : ℕ) → bad_image (length l) ≡ false → (surveyed (leaves l) (blocks l) k).stage ≡ 1
    → let b = (surveyed (leaves l) (blocks l) k).target in value_at (leaves l b) (slot_of (leaves l b) k) ≡ lookup k (entries_in l)
unfolding entries_in
noted_lookup l k fine e =
    let t = noted_around l k fine e in
    find_lookup (leaves l) (blocks l) t.front (surveyed (leaves l) (blocks l) k).target t.behind t.sound k t.target_is
    ∙ ap (λ (bs : List ℕ). lookup k (list_of (leaves l) bs)) (sym t.whole)

module _ (l : List ℕ) (k : ℕ) where
  pub find_bad : bad_image (length l) ≡ true → found_as (Err BadImage) ≡ find_of l k
  unfolding find_of
  find_bad e = λ i. find_by (sym e i) (is_sound l) (lookup k (entries_in l))

  pub find_unsound : bad_image (length l) ≡ false → ((surveyed (leaves l) (blocks l) k).stage ≡ 1 → ⊥) → found_as (Err Unsound) ≡ find_of l k
  unfolding find_of
  find_unsound fine ne = λ i. find_by (sym fine i) (sym (says_no l k fine ne) i) (lookup k (entries_in l))

  pub find_slot : bad_image (length l) ≡ false → (surveyed (leaves l) (blocks l) k).stage ≡ 1 → (L : Leaf)
      → L ≡ leaves l (surveyed (leaves l) (blocks l) k).target → found_as (found_at L (slot_of L k)) ≡ find_of l k
  unfolding find_of
  find_slot fine e L is =
      by (slot_of L k)
      ∙ (λ i. find_by (sym fine i) (sym (says_yes l k fine e) i) ((ap (λ (M : Leaf). value_at M (slot_of M k)) is ∙ noted_lookup l k fine e) i))
    where
      by : (x : Option ℕ) → found_as (found_at L x) ≡ find_by false true (value_at L x)
      by (Some s) = refl
      by None = refl
