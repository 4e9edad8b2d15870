-- The slots beside a slot past line 0, in its line, and the copies into them.
use Rattle.std.specs.Prelude.{ℕ, zero, suc, ◌+◌, ◌-◌, ◌*◌, ◌%◌, ◌≤◌, ◌<◌, Bool, false, cond, ◌≡◌, length}
use Rattle.std.proofs.Math.Decide.{dec_lt}
use Rattle.std.proofs.Common.{arith, lt-ltb, le-ltb}
use mathlib.Core.List.{List, [], ◌∷◌}
use Rattle.std.proofs.Math.Path.{refl}
use Rattle.words.specs.Bools.{by_test}
use Rattle.words.specs.Update.{upd}
use Rattle.header.specs.Header.{marked, cleared, fingerprint_of}
use Rattle.leaf.specs.Leaf.{Leaf, occ_in, block, view}
use Rattle.steps.specs.declared.Step.{Step}
use Rattle.steps.specs.declared.Step.TheVariants.{Store as store}
use Rattle.steps.specs.Model.{line}
use Rattle.steps.specs.Lists.{Each, run_all}
use Rattle.image.specs.Copies.{Copy, copies}
use Rattle.image.proofs.EditMaps.{Fits, copies_fit}
use Rattle.image.proofs.WordMoves.{copy_head, copy_image}
use Rattle.lists.specs.Lists.{key_place, val_place, last_beside, copies_beside, copy_steps, copied_head}

-- ---- the slots beside a slot past line 0

pub record Beside (b s last : ℕ) : Type 0 where
  pub few : last - s ≤ 3
  pub top : last < 14
  pub from : s ≤ last
  pub keys : (t : ℕ) → s ≤ t → t ≤ last → line (key_place b t) ≡ line (key_place b s)
  pub vals : (t : ℕ) → s ≤ t → t ≤ last → line (val_place b t) ≡ line (key_place b s)

-- from `first` to `last` is one line
beside_in : (b s first last : ℕ) → (first + 1) % 4 ≡ 0 → first ≤ s → s ≤ last → last ≤ first + 3 → last < 14 → Beside b s last
beside_in b s first last z l h n top = record {
  few = omega arith;
  top = top;
  from = h;
  keys = λ t x y. omega arith;
  vals = λ t x y. omega arith;
}

pub beside : (b s : ℕ) → 3 ≤ s → s < 14 → Beside b s (last_beside s)
beside b s past slot =
    elim (dec_lt s 7) [
      | yes h ↦ rw (lt-ltb s 7 h) (beside_in b s 3 6 refl past (omega arith) (omega arith) (omega arith))
      | no h ↦ elim (dec_lt s 11) [
        | yes g ↦ rw (le-ltb s 7 (omega arith), lt-ltb s 11 g)
            (beside_in b s 7 10 refl (omega arith) (omega arith) (omega arith) (omega arith))
        | no g ↦ rw (le-ltb s 7 (omega arith), le-ltb s 11 (omega arith))
            (beside_in b s 11 13 refl (omega arith) (omega arith) (omega arith) (omega arith))
      ]
    ]

-- ---- the copies

pub fits_raise : (occ : ℕ → Bool) (i t d e : ℕ) (cs : List Copy) → d ≤ e → Fits occ i t d cs → Fits occ i t e cs
fits_raise occ i t d e [] l f = tt
fits_raise occ i t d e (c ∷ cs) l f =
    (f.0, f.1, f.2, omega (arith, f.3), f.4, fits_raise occ (suc c.from) (suc c.to) d e cs l f.5)

pub beside_fit : (h b s : ℕ) → 3 ≤ s → s < 14 → Fits (occ_in h) 0 (suc s) (suc (last_beside s)) (copies_beside h s)
unfolding copies_beside
beside_fit h b s past slot =
    let r : Beside b s (last_beside s) = beside b s past slot in
    copies_fit (occ_in h) (last_beside s - s) 0 (suc s) (suc (last_beside s)) (omega arith) (omega arith)

-- at most three, of two stores each
copies_few : (occ : ℕ → Bool) (n i t : ℕ) → length (copies occ i t n) ≤ n
unfolding copies
copies_few occ zero i t = omega arith
copies_few occ (suc n) i t =
    by_test (λ x. length (cond x (copies occ i (suc t) n) (record { from = i; to = t } ∷ copies occ (suc i) (suc t) n)) ≤ suc n)
    (occ t)
    (λ e. omega (arith, copies_few occ n i (suc t)))
    (λ e. omega (arith, copies_few occ n (suc i) (suc t)))

pub copy_length : (L : Leaf) (b : ℕ) (cs : List Copy) → length (copy_steps L b cs) ≡ 2 * length cs
copy_length L b [] = refl
copy_length L b (c ∷ cs) = omega (arith, copy_length L b cs)

pub beside_few : (h b s : ℕ) (L : Leaf) → 3 ≤ s → s < 14 → length (copy_steps L b (copies_beside h s)) ≤ 6
unfolding copies_beside
beside_few h b s L past slot =
    omega (
      arith,
      (beside b s past slot).few,
      copies_few (occ_in h) (last_beside s - s) 0 (suc s),
      copy_length L b (copies (occ_in h) 0 (suc s) (last_beside s - s)),
    )

-- what they leave, as `image` has it
module _ (w : ℕ → ℕ) (b : ℕ) where
  pub copied_is : (cs : List Copy) (n : ℕ) → copied_head (view w b) n cs ≡ copy_head (block w b) n cs
  unfolding view
  copied_is [] n = refl
  copied_is (c ∷ cs) n = copied_is cs (marked (cleared n c.from) c.to (fingerprint_of (block w b (2 + 2 * c.from))))

  pub copies_run : (cs : List Copy) (x : ℕ → ℕ) → run_all upd (copy_steps (view w b) b cs) x ≡ copy_image (block w b) b x cs
  unfolding view
  copies_run [] x = refl
  copies_run (c ∷ cs) x = copies_run cs _

-- each of their stores, where it is known of stores to vacant slots
pub copies_each : (P : Step → Type 0) (occ : ℕ → Bool) (L : Leaf) (b : ℕ) (cs : List Copy) (i t e : ℕ) → Fits occ i t e cs
    → ((q j : ℕ) → t ≤ q → q < e → occ q ≡ false → P (store (key_place b q) (L.key j)) × P (store (val_place b q) (L.val j)))
    → Each P (copy_steps L b cs)
copies_each P occ L b [] i t e f h = tt
copies_each P occ L b (c ∷ cs) i t e f h =
    let y = h c.to c.from f.2 f.3 f.4 in
    let more = copies_each P occ L b cs (suc c.from) (suc c.to) e f.5 (λ q j a. h q j (omega (arith, f.2))) in
    (y.0, (y.1, more))
