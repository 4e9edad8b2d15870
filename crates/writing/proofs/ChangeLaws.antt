-- Each answer of set and del, from the tests that led to it.
use Rattle.std.specs.Prelude.{◌≡◌, refl, Bool, true, false, cond, not, List, [], ◌∷◌, ℕ, eqb, length, Option, Some, None, Ok, Err}
use Rattle.std.proofs.Common.{sym, ap, ap₂, ◌∙◌}
use Rattle.words.specs.Words.{reads}
use Rattle.words.specs.Bools.{both, by_test}
use Rattle.words.specs.Below.{count_below}
use Rattle.header.specs.Header.{alt_in, cleared}
use Rattle.leaf.specs.Leaf.{occ_in, view}
use Rattle.leaf.specs.Search.{slot_of, count}
use Rattle.steps.specs.declared.Step.{Step}
use Rattle.steps.specs.declared.refusal.Refusal.{Refusal}
use Rattle.steps.specs.declared.refusal.Refusal.TheVariants.{Absent}
use Rattle.steps.specs.Refusals.{answer, bad_image}
use Rattle.steps.specs.Encoding.{written}
use Rattle.steps.specs.Shapes.{one_store}
use Rattle.survey.specs.Walk.{State, surveyed}
use Rattle.image.specs.Map.{lookup}
use Rattle.image.specs.Answers.{value_at}
use Rattle.image.specs.Image.{blocks, leaves}
use Rattle.verdict.specs.Place.{target_from, before_from}
use Rattle.index.specs.Reading.{entries_in, is_none}
use Rattle.index.proofs.SoundTest.{survey_sound, sound_chain}
use Rattle.index.proofs.FindLaws.{noted_lookup}
use Rattle.lists.specs.Lists.{word_place, val_place, sib_place, low_word, head_in, set_list, unlink_list, clear_list, is_alone, del_list}
use Rattle.writing.specs.Writing.{target_of, before_of, place_of, outcome, made_as, at_slot, change_table, set_of, del_of}
use Rattle.writing.specs.declared.Made.{Made}
use Rattle.writing.specs.Alike.{RefusedAlike, Walked}
use Rattle.writing.specs.PutCounts.{three_steps}
use Rattle.writing.proofs.AlikeLaws.{refused_told, others_left}

-- what the survey of a sound image noted
module _ (l : List ℕ) (k : ℕ) (fine : bad_image (length l) ≡ false) (e : (surveyed (leaves l) (blocks l) k).stage ≡ 1) where
  pub noted_target : (surveyed (leaves l) (blocks l) k).target ≡ target_of l k
  noted_target =
      let s = survey_sound l k fine e in
      s.notes.target ∙ ap (target_from (leaves l) k 0) (sym (sound_chain l s.chain fine s.sound))

  pub noted_before : (surveyed (leaves l) (blocks l) k).before ≡ before_of l k
  noted_before =
      let s = survey_sound l k fine e in
      s.notes.before ∙ ap (before_from (leaves l) k 0 0) (sym (sound_chain l s.chain fine s.sound))

  -- the key is there just if a slot of its target leaf has it
  pub noted_value : value_at (leaves l (target_of l k)) (place_of l k) ≡ lookup k (entries_in l)
  noted_value =
      ap (λ (b : ℕ). value_at (leaves l b) (slot_of (leaves l b) k)) (sym noted_target) ∙ noted_lookup l k fine e

-- ---- the three steps of set and del, as they are told

pub three_told : (p v : ℕ) (list : List ℕ) → made_as (Ok three_steps) (written (one_store p v) list) ≡ outcome 0 (one_store p v) list
unfolding count_below
three_told p v list = refl

pub set_told : (b s v : ℕ) (list : List ℕ) → made_as (Ok three_steps) (written (set_list b s v) list) ≡ outcome 0 (set_list b s v) list
unfolding set_list
set_told b s v list = three_told (val_place b s) v list

pub del_told : (w : ℕ → ℕ) (p b s : ℕ) (list : List ℕ) → made_as (Ok three_steps) (written (del_list w p b s) list) ≡ outcome 0
    (del_list w p b s) list
unfolding del_list unlink_list clear_list
del_told w p b s list =
    by_test (λ x. made_as (Ok three_steps) (written (cond x (unlink_list w p b) (clear_list w b s)) list) ≡ outcome 0
    (cond x (unlink_list w p b) (clear_list w b s)) list)
    (is_alone w b)
    (λ e. three_told (sib_place p (alt_in (head_in w p))) (view w b).next list)
    (λ e. three_told (word_place b 0) (low_word (cleared (head_in w b) s)) list)

-- ---- set and del: by the slot of the key, absent or made

module _ {l list : List ℕ} {refusal : Refusal} (r : RefusedAlike l list refusal) (k : ℕ) where
  abbrev rows : List (ℕ × Bool)
  rows = (5, is_none (lookup k (entries_in l))) ∷ []

  pub set_refused : (v : ℕ) → made_as (Err refusal) list ≡ set_of l list k v
  unfolding set_of
  set_refused v = refused_told l list refusal rows (at_slot (place_of l k) (λ s. set_list (target_of l k) s v)) r

  pub del_refused : made_as (Err refusal) list ≡ del_of l list k
  unfolding del_of
  del_refused =
      refused_told l list refusal rows (at_slot (place_of l k) (λ s. del_list (reads l) (before_of l k) (target_of l k) s)) r

module _ {l list : List ℕ} {k : ℕ} {w : State} (W : Walked l list k w) where
  ended : (surveyed (leaves l) (blocks l) k).stage ≡ 1
  ended = sym (ap (λ (s : State). s.stage) W.is) ∙ W.ended

  pub target_is : w.target ≡ target_of l k
  target_is = ap (λ (s : State). s.target) W.is ∙ noted_target l k W.good ended

  pub before_is : w.before ≡ before_of l k
  before_is = ap (λ (s : State). s.before) W.is ∙ noted_before l k W.good ended

  -- the value of the key, by the slot found
  pub value_is : (x : Option ℕ) → slot_of (leaves l w.target) k ≡ x → value_at (leaves l (target_of l k)) x ≡ lookup k (entries_in l)
  value_is x e =
      ap (value_at (leaves l (target_of l k))) (sym e ∙ ap (λ (b : ℕ). slot_of (leaves l b) k) target_is)
      ∙ noted_value l k W.good ended

  -- what is answered and made, by the slot found
  pub change_by : (made : ℕ → List Step) (x : Option ℕ) → slot_of (leaves l w.target) k ≡ x
      → outcome (answer ((5, is_none (value_at (leaves l (target_of l k)) x)) ∷ [])) (at_slot x made) list
      ≡ outcome (answer (change_table l list k)) (at_slot (place_of l k) made) list
  change_by made x e =
      ap₂ (λ (n : ℕ) (y : Option ℕ). outcome n (at_slot y made) list)
      (ap (λ (v : Option ℕ). answer ((5, is_none v) ∷ [])) (value_is x e)
      ∙ others_left W ((5, is_none (lookup k (entries_in l))) ∷ []))
      (sym e ∙ ap (λ (b : ℕ). slot_of (leaves l b) k) target_is)

  module _ (none : slot_of (leaves l w.target) k ≡ None) where
    pub set_absent : (v : ℕ) → made_as (Err Absent) list ≡ set_of l list k v
    unfolding set_of
    set_absent v = change_by (λ s. set_list (target_of l k) s v) None none

    pub del_absent : made_as (Err Absent) list ≡ del_of l list k
    unfolding del_of
    del_absent = change_by (λ s. del_list (reads l) (before_of l k) (target_of l k) s) None none

  module _ {s : ℕ} (found : slot_of (leaves l w.target) k ≡ Some s) {m : Made} (told : m ≡ three_steps) {behind : List ℕ} where
    pub set_made : (v : ℕ) → behind ≡ written (set_list w.target s v) list → made_as (Ok m) behind ≡ set_of l list k v
    unfolding set_of
    set_made v e =
        ap₂ (λ (x : Made) (y : List ℕ). made_as (Ok x) y) told e ∙ set_told w.target s v list
        ∙ ap (λ (b : ℕ). outcome 0 (set_list b s v) list) target_is
        ∙ change_by (λ t. set_list (target_of l k) t v) (Some s) found

    pub del_made : behind ≡ written (del_list (reads l) w.before w.target s) list → made_as (Ok m) behind ≡ del_of l list k
    unfolding del_of
    del_made e =
        ap₂ (λ (x : Made) (y : List ℕ). made_as (Ok x) y) told e ∙ del_told (reads l) w.before w.target s list
        ∙ ap₂ (λ (p b : ℕ). outcome 0 (del_list (reads l) p b s) list) before_is target_is
        ∙ change_by (λ t. del_list (reads l) (before_of l k) (target_of l k) t) (Some s) found

-- which of the two a del makes
module _ (w : ℕ → ℕ) (p b s n : ℕ) (is : n ≡ count_below (occ_in (head_in w b)) 14) where
  pub alone_unlink : both (not (eqb b 0)) (eqb n 1) ≡ true → unlink_list w p b ≡ del_list w p b s
  unfolding del_list is_alone view count
  alone_unlink e = rw (← is, e)

  pub others_clear : both (not (eqb b 0)) (eqb n 1) ≡ false → clear_list w b s ≡ del_list w p b s
  unfolding del_list is_alone view count
  others_clear e = rw (← is, e)
