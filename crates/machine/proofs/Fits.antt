-- What a call knows that has passed the refusals 1 and 7: its steps' stores are inside the image, which has z bytes.
use Rattle.std.specs.Prelude.{ℕ, ◌*◌, ◌/◌, ◌%◌, ◌<◌, ◌≤◌, true, false, not, ◌||◌, List, ◌≡◌, length, ltb, eqb}
use Rattle.std.proofs.Common.{arith, ap, ltb-true, ltb-false, le-ltb, eqb-true, eq-eqb, ne_eqb}
use Rattle.std.proofs.lemmas.Bool.{eqb-false, not-false}
use Rattle.words.specs.Bools.{or_false}
use Rattle.words.specs.Below.{any_below}
use Rattle.words.specs.BelowLaws.{any_none, none_make}
use Rattle.steps.specs.Model.{line}
use Rattle.steps.specs.Settling.{EachStore}
use Rattle.steps.specs.declared.Step.{Step}
use Rattle.steps.specs.declared.Step.TheVariants.{Store as store, WriteBack as write_back, Fence as fence}
use Rattle.steps.specs.Encoding.{in_image, step_at, formed_at}
use Rattle.steps.proofs.EncodingLaws.{pair_of}
use Rattle.steps.specs.Refusals.{bad_image}
use Rattle.machine.specs.Taking.{malformed, bad_list}
use Rattle.machine.specs.Fits.{Fits, Passed, Taken}

pub passed : (z : ℕ) (list : List ℕ) (n : ℕ) → bad_image z ≡ false → bad_list z list n ≡ false → Passed z list n
unfolding bad_image bad_list
passed z list n e f =
    let a = or_false (eqb z 0) (ltb 65536 z || not (eqb (z % 256) 0)) e in
    let b = or_false (ltb 65536 z) (not (eqb (z % 256) 0)) a.1 in
    let c = or_false (ltb 56 n) (ltb (length list) (2 * n) || any_below (malformed z list) n) f in
    let d = or_false (ltb (length list) (2 * n)) (any_below (malformed z list) n) c.1 in
    record {
      some = some_of (eqb-false z 0 a.0);
      small = ltb-false 65536 z b.0;
      whole = eqb-true (z % 256) 0 (not-false (eqb (z % 256) 0) b.1);
      few = ltb-false 56 n c.0;
      long = ltb-false (length list) (2 * n) d.0;
      formed = λ i h. not-false (formed_at z list i) (any_none (malformed z list) n i d.1 h);
    }
  where
    some_of : (z ≡ 0 → ⊥) → 0 < z
    some_of h = omega arith

-- and what passes them
pub passes : (z : ℕ) (list : List ℕ) (n : ℕ) → Passed z list n → (bad_image z ≡ false) × (bad_list z list n ≡ false)
unfolding bad_image bad_list
passes z list n P = (
  rw (ne_eqb z 0 (λ e. omega (arith, P.some)), le-ltb 65536 z P.small, eq-eqb (z % 256) 0 P.whole),
  rw (le-ltb 56 n P.few, le-ltb (length list) (2 * n) P.long)
      (none_make (malformed z list) n (λ i h. ap not (P.formed i h))),
)

-- the first of some steps that can be taken can be, too
pub taken_less : (list : List ℕ) (m n : ℕ) → m ≤ n → Taken list n → Taken list m
taken_less list m n h T = record {
  few = omega (arith, T.few);
  long = omega (arith, T.long);
  lined = λ i p v b e. T.lined i p v (omega arith) e;
}

-- so each step's store is inside the image, and its line is one of the image
module _ (z : ℕ) (list : List ℕ) (n : ℕ) (P : Passed z list n) where
  inside : (i : ℕ) → i < n → in_image z (step_at list i) ≡ true
  inside i h = (pair_of z (step_at list i) _ _ (P.formed i h)).inside

  fits_of : (x : Step) → in_image z x ≡ true → Fits z x
  fits_of (store p v) e = omega (arith, ltb-true (8 * p) z e, P.whole)
  fits_of (write_back k) e = tt
  fits_of fence e = tt

  pub all_fit : (i : ℕ) → i < n → Fits z (step_at list i)
  all_fit i h = fits_of (step_at list i) (inside i h)

  pub line_inside : EachStore (step_at list) n (λ i p v. line p < z / 64)
  line_inside i p v h e =
      let f : in_image z (store p v) ≡ true = rw e at (inside i h) in
      omega (arith, ltb-true (8 * p) z f, P.whole)

  pub can_be_taken : Taken list n
  can_be_taken = record {
    few = P.few;
    long = P.long;
    lined = λ i p v h e. omega (arith, line_inside i p v h e, P.small);
  }
