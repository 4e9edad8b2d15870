-- What follows from the contracts of run and cut, for the crates above: which calls are accepted, what those leave in
-- words, and that a list that was written step by step passes.
use Prim.Native.Nat.{ℕ, ◌*◌, ◌/◌, ◌%◌, ◌<◌, ◌≤◌}
use Rattle.std.proofs.Common.{arith}
use Rattle.std.proofs.Math.Decide.{dec_lt}
use Rattle.std.specs.Prelude.{true, not, cond, List, ◌≡◌, refl, ltb, eqb}
use Rattle.std.proofs.Math.Bool.{false}
use Rattle.std.proofs.Math.ListN.{length, get_or-eq_default}
use borrow.Author.Tests.{ltb-false, le-ltb, eqb-true, eq-eqb, not-false}
use Rattle.words.specs.Words.{store_word}
use Rattle.words.specs.Bools.{or_false}
use Rattle.words.specs.Below.{any_below}
use Rattle.words.specs.BelowLaws.{any_none, none_make, count_nth}
use Rattle.steps.specs.Model.{line, stores_to, made, run, cut, rule01, settled, Permitted}
use Rattle.steps.specs.declared.Step.{Step}
use Rattle.steps.proofs.Settling.{is_store, settled_made}
use Rattle.steps.specs.Encoding.{in_image, step_at, written}
use Rattle.steps.proofs.EncodingLaws.{written_formed, written_length}
use Rattle.steps.specs.Lists.{Each}
use Rattle.steps.specs.Refusals.{bad_image}
use Rattle.steps.proofs.Refusals.{row_passed}
use Rattle.machine.specs.Taking.{arrived, bad_list, outside, bad_arrivals, run_of, cut_of}
use Rattle.machine.specs.Fits.{Passed}
use Rattle.machine.proofs.Fits.{passed, passes, line_inside}

-- ---- accepted

module _ (image list : List ℕ) (n : ℕ) where
  pub run_accepted : Passed (length image) list n
      → ((run_of image list n).answer ≡ 0) × ((run_of image list n).image ≡ run store_word (step_at list) image n)
  run_accepted P = let p = passes (length image) list n P in rw (p.0, p.1) (refl, refl)

  module _ (arrivals : List ℕ) where
    -- "arrivals (..) one per line", and permitted
    pub record Arrived : Type 0 where
      pub lines : length arrivals ≡ length image / 64
      pub permitted : Permitted line rule01 (step_at list) n (arrived arrivals)

    within : Passed (length image) list n → bad_arrivals (length image) list n arrivals ≡ false → Arrived
    unfolding bad_arrivals
    within P e = record {
      lines = lines;
      permitted = record { least = λ l. (both l (dec_lt l z)).0; most = λ l. (both l (dec_lt l z)).1 };
    }
      where
        z : ℕ
        z = length image / 64

        a : (not (eqb (length arrivals) z) ≡ false) × (any_below (outside list n arrivals) z ≡ false)
        a = or_false (not (eqb (length arrivals) z)) (any_below (outside list n arrivals) z) e

        lines : length arrivals ≡ z
        lines = eqb-true (length arrivals) z (not-false (eqb (length arrivals) z) a.0)

        -- no step stores to a line that the image does not have
        none : (l : ℕ) → z ≤ l → made line (step_at list) n l ≡ 0
        none l h = go (dec_lt 0 (made line (step_at list) n l))
          where
            go : Dec (0 < made line (step_at list) n l) → made line (step_at list) n l ≡ 0
            go (no k) = omega arith
            go (yes k) =
                let (i, b, t, o) = count_nth (λ j. stores_to line l (step_at list j)) n 0 k in
                let (p, v, s, q) = is_store line l (step_at list i) t in
                absurd (omega (arith, line_inside (length image) list n P i p v b s))

        both : (l : ℕ) → Dec (l < z)
            → (settled line rule01 (step_at list) n l ≤ arrived arrivals l) × (arrived arrivals l ≤ made line (step_at list) n l)
        both l (yes h) =
            let c = or_false (ltb (arrived arrivals l) (settled line rule01 (step_at list) n l))
            (ltb (made line (step_at list) n l) (arrived arrivals l))
            (any_none (outside list n arrivals) z l a.1 h) in
            (ltb-false _ _ c.0, ltb-false _ _ c.1)
        both l (no h) =
            let d : arrived arrivals l ≡ 0 = get_or-eq_default arrivals 0 {n = l} (omega (arith, lines)) in
            omega (arith, none l (omega arith), settled_made line rule01 (step_at list) n l)

    pub cut_passed : (cut_of image list n arrivals).answer ≡ 0 → Passed (length image) list n × Arrived
    cut_passed e =
        let z = length image in
        let last : ℕ = cond (bad_arrivals z list n arrivals) 10 0 in
        let a = row_passed 1 (bad_image z) (cond (bad_list z list n) 7 last) (omega arith) e in
        let b = row_passed 7 (bad_list z list n) last (omega arith) a.1 in
        let c = row_passed 10 (bad_arrivals z list n arrivals) 0 (omega arith) b.1 in
        let P = passed z list n a.0 b.0 in
        (P, within P c.0)

    pub cut_accepted : Passed (length image) list n → Arrived
        → ((cut_of image list n arrivals).answer ≡ 0)
        × ((cut_of image list n arrivals).image ≡ cut store_word line (step_at list) (arrived arrivals) image n)
    unfolding bad_arrivals
    cut_accepted P A =
        let p = passes (length image) list n P in
        let o : any_below (outside list n arrivals) (length image / 64) ≡ false =
        none_make (outside list n arrivals) (length image / 64)
        (λ l h. rw (le-ltb _ _ (A.permitted.least l)) (le-ltb _ _ (A.permitted.most l))) in
        rw (p.0, p.1, eq-eqb _ _ A.lines, o) (refl, refl)

-- ---- a list written step by step

pub written_passed : (z : ℕ) (l : List Step) (old : List ℕ) (n : ℕ) → 0 < z → z ≤ 65536 → z % 256 ≡ 0
    → Each (λ x. in_image z x ≡ true) l → length l ≤ 56 → 2 * length l ≤ length old → n ≤ length l → Passed z (written l old) n
written_passed z l old n some small whole inside few long le = record {
  some = some;
  small = small;
  whole = whole;
  few = omega arith;
  long = rw (written_length l old long) (omega arith);
  formed = λ i h. written_formed z small l old inside i (omega arith);
}
