-- An accepted call has passed its table's rows; so the image is sound, the target leaf is the survey's, and the list made is one
-- that `lists` serves.
use Rattle.std.specs.Prelude.{◌≡◌, refl, Bool, true, false, cond, not, List, [], ◌∷◌, ◌++◌, ◌≢◌, ℕ, ◌^◌, ◌≤◌, ◌<◌, length, Option, Some, None}
use Rattle.std.specs.Option.{unwrap_or}
use Rattle.std.proofs.Common.{sym, ap, ◌∙◌, subst, arith, ltb-false, eq-eqb, ne_eqb}
use Rattle.std.proofs.lemmas.Bool.{not-false}
use Rattle.words.specs.Words.{reads}
use Rattle.words.specs.WordLaws.{Bytes}
use Rattle.words.specs.Bools.{both, differ}
use Rattle.leaf.specs.Leaf.{Leaf, view}
use Rattle.leaf.specs.Search.{count}
use Rattle.leaf.proofs.SearchLaws.{slot_at, slot_missing}
use Rattle.steps.specs.declared.Step.{Step}
use Rattle.steps.specs.Model.{rule01}
use Rattle.steps.proofs.Rules.{lawful01}
use Rattle.steps.specs.Refusals.{answer, bad_image}
use Rattle.steps.proofs.Refusals.{row_passed}
use Rattle.image.proofs.Blocks.{view_size}
use Rattle.image.specs.Chain.{Sound, LowestFree}
use Rattle.image.specs.ChainLaws.{Good}
use Rattle.image.proofs.ChainLaws.{all_split, sound_good}
use Rattle.image.proofs.Edits.{Absent}
use Rattle.image.specs.Map.{Entry, lookup, put_in, without}
use Rattle.image.specs.Entries.{list_of}
use Rattle.image.specs.Answers.{value_at}
use Rattle.image.specs.Image.{blocks, leaves}
use Rattle.image.proofs.ImageLaws.{good_length}
use Rattle.image.specs.Target.{Target}
use Rattle.survey.specs.Walk.{surveyed}
use Rattle.verdict.specs.Notes.{last_or, last_of}
use Rattle.index.specs.Reading.{is_sound, chain_of, entries_in, is_none}
use Rattle.index.proofs.SoundTest.{survey_sound, sound_survey, test_sound, sound_chain, aim_target}
use Rattle.lists.specs.Lists.{set_list, del_list, unlink_list, clear_list, is_alone}
use Rattle.lists.specs.FullLists.{put_list}
use Rattle.lists.specs.SetDel.{Behind}
use Rattle.lists.proofs.ServedCalls.{set_call, del_call, put_call}
use Rattle.lists.proofs.Sizes.{set_size, del_size, put_size}
use Rattle.lists.specs.Bytes.{ServedBytes}
use Rattle.writing.specs.Writing.{target_of, before_of, place_of, free_of, is_full}
use Rattle.writing.specs.Writing.{outcome, short_list, change_table, at_slot, set_of, del_of, put_of}
use Rattle.writing.proofs.ChangeLaws.{noted_target, noted_before, noted_value}
use Rattle.demands.proofs.Free.{free_lowest}
use Rattle.std.specs.Prelude.{◌≡◌, true, false, List, ◌∷◌, ◌++◌, ◌≢◌, ℕ, ◌≤◌, length}
use Rattle.leaf.specs.Leaf.{Taken}
use Rattle.steps.specs.Refusals.{bad_image}
use Rattle.image.specs.Chain.{Sound}
use Rattle.image.specs.Map.{Entry, lookup}
use Rattle.index.specs.Reading.{is_sound, chain_of, entries_in}
use Rattle.lists.specs.Served.{lines_of}
use Rattle.writing.specs.Writing.{target_of, before_of, place_of}
use Rattle.writing.specs.Writing.{Outcome, outcome}

-- ---- what is known of a sound image and a key

pub record Judged (l : List ℕ) (k : ℕ) : Type 0 where
  pub front : List ℕ
  pub behind : List ℕ
  pub sound : Sound (leaves l) (blocks l) (front ++ (target_of l k ∷ behind))
  pub target : Target (leaves l) (target_of l k) behind k
  pub chain : chain_of l ≡ front ++ (target_of l k ∷ behind)
  pub before : target_of l k ≢ 0 → Behind front (before_of l k)
  pub value : value_at (leaves l (target_of l k)) (place_of l k) ≡ lookup k (entries_in l)

snoc : (p x : ℕ) (xs : List ℕ) → Behind (x ∷ xs) (last_or p (x ∷ xs))
snoc p x [] = record { init = []; is = refl }
snoc p x (y ∷ xs) = let r = snoc x y xs in record { init = x ∷ r.init; is = ap (λ (l : List ℕ). x ∷ l) r.is }

last_of_lem : (I : ℕ → Leaf) (N b : ℕ) (xs ys : List ℕ) → Sound I N (xs ++ (b ∷ ys)) → b ≢ 0 → Behind xs (last_of xs)
last_of_lem I N b [] ys S ne = absurd (ne S.starts)
last_of_lem I N b (x ∷ xs) ys S ne = snoc 0 x xs

pub judged : (l : List ℕ) (k : ℕ) → bad_image (length l) ≡ false → is_sound l ≡ true → Judged l k
judged l k fine so =
    let e = sound_survey l k fine (test_sound l fine so) in
    let s = survey_sound l k fine e in
    let st = surveyed (leaves l) (blocks l) k in
    let a = aim_target (leaves l) (blocks l) k s.chain st.target st.before s.sound s.notes.aim in
    let t = noted_target l k fine e in
    let q = subst (λ (b : ℕ). s.chain ≡ a.front ++ (b ∷ a.behind)) t a.whole in
    let S = subst (Sound (leaves l) (blocks l)) q s.sound in
    record {
      front = a.front;
      behind = a.behind;
      sound = S;
      target = subst (λ (b : ℕ). Target (leaves l) b a.behind k) t a.target_is;
      chain = sound_chain l s.chain fine s.sound ∙ q;
      before = λ ne. subst (Behind a.front) (sym (a.before_is (λ z. ne (sym t ∙ z))) ∙ noted_before l k fine e)
          (last_of_lem (leaves l) (blocks l) (target_of l k) a.front a.behind S ne);
      value = noted_value l k fine e;
    }

-- ---- an accepted call: what it tells of the list made, and that the list serves

pub record Accepted (l list : List ℕ) (o : Outcome) (es : List Entry) (price : ℕ) : Type 0 where
  pub made : List Step
  pub fine : bad_image (length l) ≡ false
  pub sound : is_sound l ≡ true
  pub room : 112 ≤ length list
  pub few : length made ≤ 56
  pub lines : lines_of made ≤ 8
  pub served : ServedBytes rule01 l (chain_of l) made es price
  pub told : o ≡ outcome 0 made list

told_as : {n : ℕ} {t u : List Step} (list : List ℕ) → n ≡ 0 → t ≡ u → outcome n t list ≡ outcome 0 u list
told_as list e q = λ i. outcome (e i) (q i) list

-- what serves the chain around the target leaf serves the image's own chain and entries
served_as : {l : List ℕ} (f : List Entry → List Entry) {bs : List ℕ} {t : List Step} {price : ℕ} → chain_of l ≡ bs
    → ServedBytes rule01 l bs t (f (list_of (leaves l) bs)) price → ServedBytes rule01 l (chain_of l) t (f (entries_in l)) price
unfolding entries_in
served_as {l} f {bs} {t} {price} q S = subst (λ (x : List ℕ). ServedBytes rule01 l x t (f (list_of (leaves l) x)) price) (sym q) S

is_full_lem : (w : ℕ → ℕ) (b : ℕ) → count (view w b) ≡ 14 → is_full (view w b) ≡ true
is_full_lem w b e = eq-eqb (count (view w b)) (view w b).size (e ∙ sym (view_size w b))

-- the slot of a key that is there
record Held (l : List ℕ) (k : ℕ) : Type 0 where
  slot : ℕ
  at : place_of l k ≡ Some slot
  taken : Taken (leaves l (target_of l k)) slot
  key : (leaves l (target_of l k)).key slot ≡ k

held : (l : List ℕ) (k : ℕ) → Judged l k → is_none (lookup k (entries_in l)) ≡ false → Held l k
held l k J e = go (place_of l k) refl (ap is_none J.value ∙ e)
  where
    go : (x : Option ℕ) → place_of l k ≡ x → is_none (value_at (leaves l (target_of l k)) x) ≡ false → Held l k
    go (Some s) q z =
        let r = slot_at (leaves l (target_of l k)) k s q in record { slot = s; at = q; taken = r.1.taken; key = r.1.key }
    go None q z = differ z

unlinks : (w : ℕ → ℕ) (p b s : ℕ) → b ≢ 0 → count (view w b) ≡ 1 → del_list w p b s ≡ unlink_list w p b
unfolding del_list is_alone
unlinks w p b s other alone = λ i.
    cond (both (not (ne_eqb b 0 other i)) (eq-eqb (count (view w b)) 1 alone i)) (unlink_list w p b) (clear_list w b s)

module _ (l list : List ℕ) (k : ℕ) (bytes : Bytes l) where
  -- the rows that put, set and del begin with
  rows : (rest : ℕ) → cond (bad_image (length l)) 1 (cond (short_list list) 2 (cond (not (is_sound l)) 3 rest)) ≡ 0
      → (bad_image (length l) ≡ false) × (112 ≤ length list) × (is_sound l ≡ true) × (rest ≡ 0)
  rows rest e =
      let a = row_passed 1 (bad_image (length l)) (cond (short_list list) 2 (cond (not (is_sound l)) 3 rest)) (omega arith) e in
      let b = row_passed 2 (short_list list) (cond (not (is_sound l)) 3 rest) (omega arith) a.1 in
      let c = row_passed 3 (not (is_sound l)) rest (omega arith) b.1 in
      (a.0, ltb-false (length list) 112 b.0, not-false (is_sound l) c.0, c.1)

  -- and what set and del then know of their key
  change_rows : answer (change_table l list k) ≡ 0
      → (bad_image (length l) ≡ false) × (112 ≤ length list) × (is_sound l ≡ true) × Judged l k × Held l k
  change_rows e =
      let r = rows (cond (is_none (lookup k (entries_in l))) 5 0) e in
      let J = judged l k r.0 r.2 in
      (r.0, r.1, r.2, J, held l k J (row_passed 5 (is_none (lookup k (entries_in l))) 0 (omega arith) r.3).0)

  pub set_accepted : (v : ℕ) → v < 2 ^ 64 → (set_of l list k v).answer ≡ 0
      → Accepted l list (set_of l list k v) (put_in k v (entries_in l)) 7
  unfolding set_of
  set_accepted v small e =
      let r = change_rows e in
      let J = r.3 in
      let h = r.4 in
      let b = target_of l k in
      record {
        made = set_list b h.slot v;
        fine = r.0;
        sound = r.2;
        room = r.1;
        few = omega (arith, (set_size b h.slot v).0);
        lines = omega (arith, (set_size b h.slot v).1);
        served = served_as (put_in k v) J.chain
            (set_call rule01 lawful01 l (good_length l r.0) bytes J.front b J.behind J.sound k h.slot h.taken
            h.key v small);
        told = told_as list e (ap (λ (x : Option ℕ). at_slot x (λ s. set_list b s v)) h.at);
      }

  pub del_accepted : (del_of l list k).answer ≡ 0 → Accepted l list (del_of l list k) (without k (entries_in l)) 7
  unfolding del_of
  del_accepted e =
      let r = change_rows e in
      let J = r.3 in
      let h = r.4 in
      let b = target_of l k in
      record {
        made = del_list (reads l) (before_of l k) b h.slot;
        fine = r.0;
        sound = r.2;
        room = r.1;
        few = omega (arith, (del_size (reads l) (before_of l k) b h.slot).0);
        lines = omega (arith, (del_size (reads l) (before_of l k) b h.slot).1);
        served = served_as (without k) J.chain
            (del_call rule01 lawful01 l (good_length l r.0) bytes J.front b J.behind J.sound k h.slot h.taken
            h.key (before_of l k) J.before);
        told = told_as list e (ap (λ (x : Option ℕ). at_slot x (λ s. del_list (reads l) (before_of l k) b s)) h.at);
      }

  -- the only entry of a leaf other than block 0
  pub del_unlinks : (e : (del_of l list k).answer ≡ 0) → target_of l k ≢ 0 → count (leaves l (target_of l k)) ≡ 1
      → (del_accepted e).made ≡ unlink_list (reads l) (before_of l k) (target_of l k)
  unfolding del_accepted
  del_unlinks e other alone = unlinks (reads l) (before_of l k) (target_of l k) _ other alone

  -- a key that is not there is in no slot of its target leaf
  missing : Judged l k → is_none (lookup k (entries_in l)) ≡ true → Absent (leaves l (target_of l k)) k
  missing J e u i = go (place_of l k) refl (ap is_none J.value ∙ e)
    where
      g : Good (leaves l) (blocks l) (target_of l k)
      g =
          (all_split (Good (leaves l) (blocks l)) J.front (target_of l k ∷ J.behind)
          (sound_good (leaves l) (blocks l) J.sound)).1.0

      go : (x : Option ℕ) → place_of l k ≡ x → is_none (value_at (leaves l (target_of l k)) x) ≡ true → ⊥
      go (Some s) q z = differ (sym z)
      go None q z = slot_missing (leaves l (target_of l k)) g.right k q i.at i.taken i.key_is

  abbrev wanting : Bool
  wanting = both (is_full (leaves l (target_of l k))) (is_none (free_of l))

  -- a full target leaf has a free block
  spare : (J : Judged l k) → wanting ≡ false → count (leaves l (target_of l k)) ≡ 14
      → LowestFree (blocks l) (J.front ++ (target_of l k ∷ J.behind)) (unwrap_or (free_of l) 0)
  spare J e full =
      go (free_of l) refl (sym (ap (λ (b : Bool). both b (is_none (free_of l))) (is_full_lem (reads l) (target_of l k) full)) ∙ e)
    where
      go : (x : Option ℕ) → free_of l ≡ x → is_none x ≡ false
          → LowestFree (blocks l) (J.front ++ (target_of l k ∷ J.behind)) (unwrap_or x 0)
      go (Some c) q z = subst (λ (bs : List ℕ). LowestFree (blocks l) bs c) J.chain (free_lowest l c q)
      go None q z = differ z

  pub put_accepted : (v : ℕ) → k < 2 ^ 64 → v < 2 ^ 64 → (put_of l list k v).answer ≡ 0
      → Accepted l list (put_of l list k v) (put_in k v (entries_in l)) 20
  unfolding put_of
  put_accepted v key small e =
      let r = rows (cond (not (is_none (lookup k (entries_in l)))) 4 (cond wanting 6 0)) e in
      let J = judged l k r.0 r.2 in
      let b = target_of l k in
      let c = unwrap_or (free_of l) 0 in
      let p = row_passed 4 (not (is_none (lookup k (entries_in l)))) (cond wanting 6 0) (omega arith) r.3 in
      let f = (row_passed 6 wanting 0 (omega arith) p.1).0 in
      record {
        made = put_list (reads l) b c k v;
        fine = r.0;
        sound = r.2;
        room = r.1;
        few = (put_size (reads l) b c k v).0;
        lines = (put_size (reads l) b c k v).1;
        served = served_as (put_in k v) J.chain
            (put_call rule01 lawful01 l (good_length l r.0) bytes J.front b J.behind J.sound k key v small J.target
            (missing J (not-false (is_none (lookup k (entries_in l))) p.0)) c (spare J f));
        told = told_as list e refl;
      }
