-- Tables with a number for each line, as code keeps them while it takes the steps: the stores made to a line so far, and
-- whether it had a write-back. So each step costs the same, however many there are.
use Rattle.std.specs.Prelude.{ℕ, zero, suc, ◌+◌, ◌<◌, List, ◌≡◌, refl, replicate, eqb}
use Rattle.std.proofs.Common.{add-one, arith, ◌∙◌, get_or-set_same, get_or-set_other}
use Rattle.std.proofs.Math.Decide.{dec_lt, ℕ_discrete}
use Rattle.std.proofs.Math.Path.{sym, ap}
use Rattle.std.proofs.Math.ListN.{length, get_or, length-set, get_or-eq_default}
use borrow.Author.Tests.{eq-eqb, ne_eqb}
use Rattle.words.specs.Bools.{bit, or_right, or_none}
use Rattle.words.specs.Below.{any_below, count_below}
use Rattle.words.specs.BelowLaws.{count_most}
use Rattle.steps.specs.Model.{Steps, line, stores_to, made}
use Rattle.steps.specs.LastFence.{had_back}
use Rattle.steps.specs.declared.Step.{Step}
use Rattle.steps.specs.declared.Step.TheVariants.{Store as store, WriteBack as write_back, Fence as fence}
use Rattle.machine.specs.Tables.{AtMost, Backs, Tally, Zero, counted, marked}

pub zeros : (n : ℕ) → Zero (replicate n 0)
zeros zero l = refl
zeros (suc n) zero = refl
zeros (suc n) (suc l) = zeros n l

module _ (s : Steps) (t : List ℕ) (h : Zero t) where
  pub tally_none : Tally s 0 t
  unfolding count_below
  tally_none l b = h l

  pub backs_none : Backs s 0 t
  unfolding any_below
  backs_none l b = h l

pub tally_most : (s : Steps) (n : ℕ) (t : List ℕ) → Tally s n t → AtMost n t
tally_most s n t h l =
    elim (dec_lt l (length t)) [
      | yes k ↦ omega (arith, h l k, count_most (λ i. stores_to line l (s i)) n)
      | no k ↦ omega (arith, get_or-eq_default t 0 {n = l} (omega arith))
    ]

-- a table stays as long as it is
pub counted_length : (x : Step) (t : List ℕ) → length (counted x t) ≡ length t
counted_length (store p v) t = length-set t (line p) (get_or t (line p) 0 + 1)
counted_length (write_back k) t = refl
counted_length fence t = refl

pub marked_length : (x : Step) (t : List ℕ) → length (marked x t) ≡ length t
marked_length (store p v) t = refl
marked_length (write_back k) t = length-set t k 1
marked_length fence t = refl

module _ (s : Steps) (i : ℕ) (t : List ℕ) where
  pub tally_next : (x : Step) → x ≡ s i → Tally s i t → Tally s (i + 1) (counted x t)
  unfolding count_below
  tally_next (store p v) e h l b =
      let c : l < length t = omega (arith, length-set t (line p) (get_or t (line p) 0 + 1)) in
      elim (ℕ_discrete l (line p)) [
        | yes q ↦ let d : get_or t (line p) 0 ≡ made line s i l = ap (λ (k : ℕ). get_or t k 0) (sym q) ∙ h l c in
            rw (add-one i, ← e, q) (get_or-set_same t (line p) (get_or t (line p) 0 + 1) 0 (omega (arith, q))
            ∙ rw (eq-eqb (line p) (line p) refl) (omega (arith, d, ap (made line s i) q)))
        | no q ↦ rw (add-one i, ← e, ne_eqb (line p) l (λ r. q (sym r)))
            (get_or-set_other t (line p) l (get_or t (line p) 0 + 1) 0 q ∙ omega (arith, h l c))
      ]
  tally_next (write_back k) e h l b = rw (add-one i, ← e) (omega (arith, h l b))
  tally_next fence e h l b = rw (add-one i, ← e) (omega (arith, h l b))

  pub backs_next : (x : Step) → x ≡ s i → Backs s i t → Backs s (i + 1) (marked x t)
  unfolding any_below
  backs_next (store p v) e h l b = rw (add-one i, ← e, or_none) (h l b)
  backs_next (write_back k) e h l b =
      let c : l < length t = omega (arith, length-set t k 1) in
      elim (ℕ_discrete l k) [
        | yes q ↦ rw (add-one i, ← e, q) (get_or-set_same t k 1 0 (omega (arith, q))
            ∙ sym (ap bit (or_right (had_back s i l) (eqb k k) (eq-eqb k k refl))))
        | no q ↦ rw (add-one i, ← e, ne_eqb k l (λ r. q (sym r)), or_none) (get_or-set_other t k l 1 0 q ∙ h l c)
      ]
  backs_next fence e h l b = rw (add-one i, ← e, or_none) (h l b)
