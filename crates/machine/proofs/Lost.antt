-- Refusal 10 as code finds it: the arrivals above the made stores by one pass over the arrivals, and those below the
-- settled ones by one over the steps before the last fence, where a store is settled if its line had a write-back.
use Prim.Native.Nat.{ℕ, ◌/◌, ◌<◌, ◌≤◌}
use Rattle.std.proofs.Common.{arith, sym, ap, ◌∙◌, inl, inr}
use Rattle.std.proofs.Math.Bool.{Bool, true}
use Rattle.std.specs.Prelude.{false, not, ◌||◌, List, ◌≡◌, length, ltb, leb, eqb}
use Rattle.std.proofs.lemmas.Bool.{false≢true}
use Rattle.std.proofs.Math.Path.{refl}
use borrow.Author.Tests.{ltb-true, lt-ltb, leb-true, le-leb, eqb-true, eq-eqb, ne_eqb}
use Rattle.words.specs.Bools.{bit, both_true, same_test, or_true, or_right}
use Rattle.words.specs.Below.{any_below}
use Rattle.words.specs.BelowLaws.{any_make, any_at, count_nth, count_sub}
use Rattle.steps.specs.Model.{Steps, line, stores_to, made, arrives, rule01, is_settled, settles_in, settled}
use Rattle.steps.specs.declared.Step.{Step}
use Rattle.steps.specs.declared.Step.TheVariants.{Store as store, WriteBack as write_back, Fence as fence}
use Rattle.steps.specs.Settling.{EachStore}
use Rattle.steps.proofs.Settling.{test_settled, settled_stores, settled_counts}
use Rattle.steps.specs.LastFence.{last_fence, had_back}
use Rattle.steps.proofs.LastFence.{in_reach, settled_reach, fence_below}
use Rattle.steps.proofs.Rules.{lawful01, lines_in_lines}
use Rattle.steps.specs.Encoding.{step_at}
use Rattle.machine.specs.Taking.{arrived, outside, bad_arrivals}
use Rattle.machine.specs.Fits.{Passed}
use Rattle.machine.proofs.Fits.{line_inside}
use Rattle.machine.specs.Tables.{Tally, Backs}
use Rattle.machine.specs.Lost.{is_above, is_lost, lost, lost_at, lost_by}

marked_bit : (b : Bool) → not (eqb (bit b) 0) ≡ b
marked_bit true = refl
marked_bit false = refl

module _ (list seen : List ℕ) (i : ℕ) (x : Step) (e : x ≡ step_at list i)
    (lined : (p v : ℕ) → step_at list i ≡ store p v → line p < 1024) (T : Tally (step_at list) i seen) (wide : 1024 ≤ length seen)
    (arrivals : List ℕ) where
  pub lost_by_lem : (last : ℕ) (backs : List ℕ) → Backs (step_at list) last backs → 1024 ≤ length backs
      → lost_by backs seen arrivals x ≡ lost_at list last arrivals i
  lost_by_lem last backs B long = go x e ∙ ap (is_lost (step_at list) last arrivals i) e
    where
      go : (y : Step) → y ≡ step_at list i → lost_by backs seen arrivals y ≡ is_lost (step_at list) last arrivals i y
      go (store p v) d =
          let h : line p < 1024 = lined p v (sym d) in
          rw (B (line p) (omega arith), T (line p) (omega arith), marked_bit (had_back (step_at list) last (line p)))
      go (write_back k) d = refl
      go fence d = refl

  pub arrives_by : arrives line (arrived arrivals) (arrived seen) x
      ≡ arrives line (arrived arrivals) (made line (step_at list) i) x
  arrives_by = go x e
    where
      go : (y : Step) → y ≡ step_at list i
          → arrives line (arrived arrivals) (arrived seen) y ≡ arrives line (arrived arrivals) (made line (step_at list) i) y
      go (store p v) d = let h : line p < 1024 = lined p v (sym d) in rw (T (line p) (omega arith))
      go (write_back k) d = refl
      go fence d = refl

-- ---- a settled store that did not arrive is one of a line whose number is below its settled stores

module _ (list : List ℕ) (n : ℕ) (arrivals : List ℕ) (lines : ℕ)
    (lined : EachStore (step_at list) n (λ i p v. line p < lines)) where
  abbrev s : Steps
  s = step_at list

  abbrev Below : Type 0
  Below = (l : ℕ) × (l < lines) × (arrived arrivals l < settled line rule01 (step_at list) n l)

  lost_line : lost list n arrivals ≡ true → Below
  unfolding lost
  lost_line e =
      let (i, h, t) = any_at (lost_at list (last_fence s n) arrivals) (last_fence s n) e in
      go i (s i) refl h t
    where
      go : (i : ℕ) (x : Step) → s i ≡ x → i < last_fence s n → is_lost s (last_fence s n) arrivals i x ≡ true → Below
      go i (store p v) d h t =
          let y = both_true (had_back s (last_fence s n) (line p)) (leb (arrived arrivals (line p)) (made line s i (line p))) t in
          let r : is_settled rule01 s n i (line p) ≡ true =
          settled_reach s n i (line p) ∙ rw y.0 (lt-ltb i (last_fence s n) h) in
          let k : i < n = omega (arith, fence_below s n) in
          let c = settled_counts line rule01 s n lawful01 lines_in_lines i p v k d (test_settled rule01 s n i (line p) r) in
          (line p, lined i p v k d, omega (arith, leb-true (arrived arrivals (line p)) (made line s i (line p)) y.1))
      go i (write_back k) d h t = absurd (false≢true t)
      go i fence d h t = absurd (false≢true t)

  line_lost : Below → lost list n arrivals ≡ true
  unfolding lost
  line_lost (l, b, h) =
      let f : ℕ → Bool = λ j. settles_in line rule01 s n l j (s j) in
      let (i, k, t, o) = count_nth f n (arrived arrivals l) h in
      let m = count_sub f (λ j. stores_to line l (s j)) i (λ j. settled_stores line rule01 s n l j (s j)) in
      go i (s i) refl t (omega arith)
    where
      go : (i : ℕ) (x : Step) → s i ≡ x → settles_in line rule01 s n l i x ≡ true → arrived arrivals l ≤ made line s i l
          → lost list n arrivals ≡ true
      go i (store p v) d t m =
          let y = both_true (eqb (line p) l) (is_settled rule01 s n i (line p)) t in
          let q : line p ≡ l = eqb-true (line p) l y.0 in
          let r = in_reach s (last_fence s n) (line p) i (ltb-true i _ (sym (settled_reach s n i (line p)) ∙ y.1)) in
          any_make (lost_at list (last_fence s n) arrivals) (last_fence s n) i r.1
          (rw (d, r.0, q) (le-leb (arrived arrivals l) (made line s i l) m))
      go i (write_back k) d t m = absurd (false≢true t)
      go i fence d t m = absurd (false≢true t)

  outside_is : any_below (is_above list n arrivals) lines || lost list n arrivals ≡ any_below (outside list n arrivals) lines
  outside_is =
      same_test (any_below above lines || lost list n arrivals) (any_below (outside list n arrivals) lines)
      (λ e. elim (or_true (any_below above lines) (lost list n arrivals) e) [
        | inl h ↦ from_above h
        | inr h ↦ from_lost (lost_line h)
      ])
      (λ e. found (any_at (outside list n arrivals) lines e))
    where
      above : ℕ → Bool
      above = is_above list n arrivals

      from_above : any_below above lines ≡ true → any_below (outside list n arrivals) lines ≡ true
      from_above h =
          let (l, b, t) = any_at above lines h in
          any_make (outside list n arrivals) lines l b
          (or_right (ltb (arrived arrivals l) (settled line rule01 s n l)) (above l) t)

      from_lost : Below → any_below (outside list n arrivals) lines ≡ true
      from_lost (l, k, u) =
          any_make (outside list n arrivals) lines l k (rw (lt-ltb (arrived arrivals l) (settled line rule01 s n l) u))

      found : (l : ℕ) × (l < lines) × (outside list n arrivals l ≡ true) → any_below above lines || lost list n arrivals ≡ true
      found (l, b, t) =
          elim (or_true (ltb (arrived arrivals l) (settled line rule01 s n l)) (above l) t) [
            | inl h ↦ or_right (any_below above lines) (lost list n arrivals) (line_lost (l, b, ltb-true _ _ h))
            | inr h ↦ rw (any_make above lines l b h)
          ]

-- ---- the condition of refusal 10, of a list that has passed 1 and 7

pub arrivals_short : (size : ℕ) (list : List ℕ) (n : ℕ) (arrivals : List ℕ) → (length arrivals ≡ size / 64 → ⊥)
    → bad_arrivals size list n arrivals ≡ true
unfolding bad_arrivals
arrivals_short size list n arrivals h = rw (ne_eqb (length arrivals) (size / 64) h)

pub arrivals_judged : (size : ℕ) (list : List ℕ) (n : ℕ) (arrivals : List ℕ) → Passed size list n
    → length arrivals ≡ size / 64
    → any_below (is_above list n arrivals) (length arrivals) || lost list n arrivals ≡ bad_arrivals size list n arrivals
unfolding bad_arrivals
arrivals_judged size list n arrivals P e =
    rw (eq-eqb (length arrivals) (size / 64) e, e) (outside_is list n arrivals (size / 64) (line_inside size list n P))
