-- What `lists` proves of a list of steps, carried to the list of words that a call writes and to what run and cut leave of it.
use Rattle.std.specs.Prelude.{◌≡◌, refl, List, false, ◌⊎◌, ℕ, ◌+◌, ◌*◌, ◌≤◌, length}
use Rattle.std.proofs.Common.{sym, ap, ◌∙◌, subst, arith}
use Rattle.std.proofs.Math.Logic.{inl, inr}
use Rattle.words.specs.BelowLaws.{count_le, count_cong}
use Rattle.steps.specs.declared.Step.{Step}
use Rattle.steps.specs.Model.{line, run, cut, rule01, Permitted, is_line_write, line_writes}
use Rattle.steps.proofs.Rules.{lawful01, lines_in_lines}
use Rattle.steps.specs.Encoding.{step_at, steps_of, written}
use Rattle.steps.proofs.EncodingLaws.{written_step}
use Rattle.steps.proofs.Concatenation.{Agree, run_cong, cut_cong, permitted_cong, all_settled_cong}
use Rattle.steps.specs.Refusals.{bad_image}
use Rattle.machine.specs.Taking.{store_word, arrived, run_of, cut_of}
use Rattle.machine.specs.Fits.{Passed}
use Rattle.machine.proofs.TakingLaws.{Arrived, run_accepted, cut_passed, cut_accepted, written_passed}
use Rattle.image.specs.Map.{Entry}
use Rattle.image.specs.Entries.{list_of}
use Rattle.image.specs.Potential.{phi}
use Rattle.image.specs.Image.{leaves, SoundImage}
use Rattle.image.proofs.ImageLaws.{good_length}
use Rattle.index.specs.Reading.{chain_of, entries_in}
use Rattle.index.proofs.SoundTest.{sound_chain}
use Rattle.index.proofs.Agreement.{find_accepted, listing_accepted, entries_list}
use Rattle.lists.specs.Served.{per_line, per_cut, spent}
use Rattle.lists.specs.Bytes.{LeftBytes}
use Rattle.writing.specs.Writing.{Outcome, outcome}
use Rattle.demands.specs.Holds.{Holds}
use Rattle.demands.proofs.Accepted.{Accepted}
use Rattle.std.specs.Prelude.{◌≡◌, List, false, ◌⊎◌, ℕ, ◌+◌, ◌*◌, ◌≤◌, length}
use Rattle.steps.specs.Model.{rule01, line_writes}
use Rattle.steps.specs.Settling.{AllSettled}
use Rattle.steps.specs.Encoding.{step_at}
use Rattle.machine.specs.Taking.{run_of, cut_of}
use Rattle.image.specs.Image.{leaves}
use Rattle.lists.specs.Served.{per_line, per_cut}
use Rattle.writing.specs.Writing.{Outcome}

-- ---- what is carried

-- "Cut after any number of steps": the image left by a cut of the list that o tells has the entries fs
abbrev pub CutLeft : List ℕ → Outcome → ℕ → List ℕ → List Entry → Type 0
CutLeft l o n arrivals fs =
    LeftBytes l (cut_of l o.list n arrivals).image fs (per_line * line_writes (step_at o.list) n)
    (phi (leaves l) (chain_of l) + per_cut)

pub record Carried (l : List ℕ) (o : Outcome) (es : List Entry) (price : ℕ) : Type 0 where
  pub fine : bad_image (length l) ≡ false
  pub accepted : (run_of l o.list o.steps).answer ≡ 0
  pub settled : AllSettled rule01 (step_at o.list) o.steps
  pub whole : LeftBytes l (run_of l o.list o.steps).image es (per_line * line_writes (step_at o.list) o.steps)
      (phi (leaves l) (chain_of l) + price)
  pub cuts : (n : ℕ) (arrivals : List ℕ) → n ≤ o.steps → (cut_of l o.list n arrivals).answer ≡ 0
      → CutLeft l o n arrivals (entries_in l) ⊎ CutLeft l o n arrivals es
  pub told : o.lines ≤ 8
  pub lines : (n : ℕ) → n ≤ o.steps → line_writes (step_at o.list) n ≤ 8

-- "The map of a sound image is its occupied entries": find and listing answer from them
pub sound_holds : (l : List ℕ) → bad_image (length l) ≡ false → SoundImage l → Holds l (entries_in l)
sound_holds l fine S =
    record {
      fine = fine;
      sound = S;
      entries = refl;
      map = entries_list l fine S;
      finds = find_accepted l fine S;
      lists = listing_accepted l fine S;
    }

-- an image that is left holds the entries promised
pub left_holds : {l m : List ℕ} {es : List Entry} {cost bound : ℕ} → bad_image (length l) ≡ false → LeftBytes l m es cost bound
    → Holds m es
unfolding entries_in
left_holds {l} {m} {es} {cost} {bound} fine L =
    let f : bad_image (length m) ≡ false = ap bad_image L.long ∙ fine in
    let s : SoundImage m = record { chain = L.left.chain; sound = L.left.sound } in
    let q : entries_in m ≡ es = ap (list_of (leaves m)) (sound_chain m L.left.chain f L.left.sound) ∙ L.left.list in
    subst (Holds m) q (sound_holds m f s)

-- ---- by way of the words written

module _ (l list : List ℕ) (o : Outcome) (es : List Entry) (price : ℕ) (A : Accepted l list o es price) where
  abbrev t : List Step
  t = A.made

  abbrev words : List ℕ
  words = written t list

  abbrev bound : ℕ → ℕ
  bound more = phi (leaves l) (chain_of l) + more

  passes : (n : ℕ) → n ≤ length t → Passed (length l) words n
  passes n h =
      let z = good_length l A.fine in
      written_passed (length l) t list n (omega (arith, z.whole, z.some)) (omega (arith, z.whole, z.most))
      (omega (arith, z.whole)) A.served.inside A.few (omega (arith, A.room, A.few)) h

  same : Agree (step_at words) (steps_of t) (length t)
  same i h =
      let z = good_length l A.fine in
      written_step (length l) (omega (arith, z.whole, z.most)) t list A.served.inside i h

  back : (n : ℕ) → n ≤ length t → Agree (steps_of t) (step_at words) n
  back n h i b = sym (same i (omega arith))

  -- the line writes of the words are those of the steps
  same_cost : (n : ℕ) → n ≤ length t → spent t n ≡ per_line * line_writes (step_at words) n
  same_cost n h =
      ap (λ (k : ℕ). per_line * k)
      (count_cong (λ i. is_line_write (steps_of t i)) (λ i. is_line_write (step_at words i)) n (λ i b. ap is_line_write (back n h i b)))

  few_lines : (n : ℕ) → n ≤ length t → line_writes (step_at words) n ≤ 8
  few_lines n h =
      omega (
        arith,
        A.lines,
        same_cost (length t) (omega arith),
        count_le (λ i. is_line_write (step_at words i)) n (length t) h,
      )

  run_steps : (run_of l words (length t)).image ≡ run store_word (steps_of t) l (length t)
  run_steps =
      (run_accepted l words (length t) (passes (length t) (omega arith))).1
      ∙ run_cong (step_at words) (steps_of t) store_word l (length t) same

  -- the image that is left, from the steps made
  pub ran_is : (run_of l o.list o.steps).image ≡ run store_word (steps_of A.made) l (length A.made)
  ran_is = ap (λ (x : Outcome). (run_of l x.list x.steps).image) A.told ∙ run_steps

  run_left : LeftBytes l (run_of l words (length t)).image es (per_line * line_writes (step_at words) (length t)) (bound price)
  run_left =
      subst (λ (c : ℕ). LeftBytes l (run_of l words (length t)).image es c (bound price)) (same_cost (length t) (omega arith))
      (subst (λ (m : List ℕ). LeftBytes l m es (spent t (length t)) (bound price)) (sym run_steps) A.served.whole)

  cut_left : (n : ℕ) (arrivals : List ℕ) → n ≤ length t → (cut_of l words n arrivals).answer ≡ 0
      → CutLeft l (outcome 0 t list) n arrivals (entries_in l) ⊎ CutLeft l (outcome 0 t list) n arrivals es
  unfolding entries_in
  cut_left n arrivals h e =
      elim (A.served.cuts n (arrived arrivals) h permitted) [ inl x ↦ inl (at_cut _ x) | inr x ↦ inr (at_cut es x) ]
    where
      p : Passed (length l) words n × Arrived l words n arrivals
      p = cut_passed l words n arrivals e

      permitted : Permitted line rule01 (steps_of t) n (arrived arrivals)
      permitted =
          permitted_cong (steps_of t) (step_at words) line lines_in_lines rule01 lawful01 n (arrived arrivals) (back n h)
          p.1.permitted

      image_is : (cut_of l words n arrivals).image ≡ cut store_word line (steps_of t) (arrived arrivals) l n
      image_is =
          (cut_accepted l words n arrivals p.0 p.1).1
          ∙ cut_cong (step_at words) (steps_of t) store_word line (arrived arrivals) l n (λ i b. same i (omega arith))

      at_cut : (fs : List Entry)
          → LeftBytes l (cut store_word line (steps_of t) (arrived arrivals) l n) fs (spent t n) (bound per_cut)
          → CutLeft l (outcome 0 t list) n arrivals fs
      at_cut fs L =
          subst (λ (c : ℕ). LeftBytes l (cut_of l words n arrivals).image fs c (bound per_cut)) (same_cost n h)
          (subst (λ (m : List ℕ). LeftBytes l m fs (spent t n) (bound per_cut)) (sym image_is) L)

  pub carried : Carried l o es price
  carried =
      subst (λ (x : Outcome). Carried l x es price) (sym A.told)
      (record {
        fine = A.fine;
        accepted = (run_accepted l words (length t) (passes (length t) (omega arith))).0;
        settled = all_settled_cong (steps_of t) (step_at words) rule01 (length t) (back (length t) (omega arith))
            A.served.settled;
        whole = run_left;
        cuts = cut_left;
        told = A.lines;
        lines = few_lines;
      })
