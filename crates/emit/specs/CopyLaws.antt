-- The copies of a plain put past line 0, one slot of the line after another.
use Rattle.std.specs.Prelude.{ℕ, zero, suc, ◌+◌, ◌-◌, ◌*◌, ◌≤◌, ◌<◌, Bool, true, false, cond, List, [], ◌∷◌, ◌++◌, ◌≡◌, refl, length}
use Rattle.std.proofs.Common.{zero-add, sym, ap₂, ◌∙◌, length-append}
use native.Mathlib.Omega.{arith}
use Rattle.std.proofs.Math.Path.{ap}
use Rattle.words.specs.Bools.{by_test}
use Rattle.header.specs.Header.{marked, cleared, fingerprint_of}
use Rattle.leaf.specs.Leaf.{Leaf, occ_in}
use Rattle.steps.specs.declared.Step.{Step}
use Rattle.image.specs.Copies.{Copy, copies}
use Rattle.lists.proofs.Beside.{copy_length}
use Rattle.lists.specs.Lists.{copy_steps, copied_head, copies_beside, filled_head, entry_steps, last_beside}
use Rattle.emit.specs.Appended.{appended, appended_length, stretch_more}

-- what one slot adds
module _ (occ : ℕ → Bool) (i t : ℕ) where
  pub copies_taken : occ t ≡ true → copies occ i t 1 ≡ []
  unfolding copies
  copies_taken e = rw e

  pub copies_vacant : occ t ≡ false → copies occ i t 1 ≡ record { from = i; to = t } ∷ []
  unfolding copies
  copies_vacant e = rw e

-- the slots one after another
pub copies_more : (occ : ℕ → Bool) (i t n : ℕ)
    → copies occ i t (suc n) ≡ copies occ i t n ++ copies occ (i + length (copies occ i t n)) (t + n) 1
unfolding copies
copies_more occ i t zero =
    let e : i ≡ i + 0 = omega arith in
    let f : t ≡ t + 0 = omega arith in
    ap₂ (λ (j u : ℕ). copies occ j u 1) e f
copies_more occ i t (suc n) =
    by_test (λ b. step b (copies occ i (suc t) (suc n)) (copies occ (suc i) (suc t) (suc n))
    ≡ step b (copies occ i (suc t) n) (copies occ (suc i) (suc t) n)
    ++ copies occ (i + length (step b (copies occ i (suc t) n) (copies occ (suc i) (suc t) n))) (t + suc n) 1) (occ t)
    (λ e. copies_more occ i (suc t) n
    ∙ ap (λ (u : ℕ). copies occ i (suc t) n ++ copies occ (i + length (copies occ i (suc t) n)) u 1) (on t))
    (λ e. ap (λ (r : List Copy). record { from = i; to = t } ∷ r)
    (copies_more occ (suc i) (suc t) n
    ∙ ap₂ (λ (j u : ℕ). copies occ (suc i) (suc t) n ++ copies occ j u 1)
    (on_from_lem (length (copies occ (suc i) (suc t) n))) (on t)))
  where
    step : Bool → List Copy → List Copy → List Copy
    step b x y = cond b x (record { from = i; to = t } ∷ y)

    on : (u : ℕ) → suc u + n ≡ u + suc n
    on u = omega arith

    on_from_lem : (k : ℕ) → suc i + k ≡ i + suc k
    on_from_lem k = omega arith

-- the steps and the header of two runs of copies
module _ (L : Leaf) where
  pub steps_append : (b : ℕ) (k l : List Copy) → copy_steps L b (k ++ l) ≡ copy_steps L b k ++ copy_steps L b l
  steps_append b [] l = refl
  steps_append b (c ∷ k) l = ap (λ (r : List Step). entry_steps b c.to (L.key c.from) (L.val c.from) ++ r)
      (steps_append b k l)

  pub head_append : (h : ℕ) (k l : List Copy) → copied_head L h (k ++ l) ≡ copied_head L (copied_head L h k) l
  head_append h [] l = refl
  head_append h (c ∷ k) l = head_append (copied_head L h (c ∷ [])) k l

-- ---- the loops over the slots behind slot s, up to slot t

abbrev pub copied : ℕ → ℕ → ℕ → List Copy
copied h s t = copies (occ_in h) 0 (suc s) (t - suc s)

copied_none : (h s : ℕ) → copied h s (s + 1) ≡ []
unfolding copies
copied_none h s = let e : s + 1 - suc s ≡ 0 = omega arith in rw e

copied_more : (h s t : ℕ) → s < t → copied h s (t + 1) ≡ copied h s t ++ copies (occ_in h) (length (copied h s t)) t 1
copied_more h s t l =
    let e : t + 1 - suc s ≡ suc (t - suc s) = omega arith in
    let f : suc s + (t - suc s) ≡ t = omega arith in
    ap (copies (occ_in h) 0 (suc s)) e ∙ copies_more (occ_in h) 0 (suc s) (t - suc s)
    ∙ ap₂ (λ (i u : ℕ). copied h s t ++ copies (occ_in h) i u 1) (zero-add (length (copied h s t))) f

copied_next : (h s t from : ℕ) → s < t → from ≡ length (copied h s t)
    → copied h s (t + 1) ≡ copied h s t ++ copies (occ_in h) from t 1
copied_next h s t from l n = rw n (copied_more h s t l)

copied_all : (h s t : ℕ) → t ≡ last_beside s + 1 → copied h s t ≡ copies_beside h s
unfolding copies_beside
copied_all h s t e = let q : t - suc s ≡ last_beside s - s = omega arith in ap (copies (occ_in h) 0 (suc s)) q

-- the steps of the copies so far, and their number
pub record CopiedTo (h : ℕ) (L : Leaf) (b s at : ℕ) (before : List ℕ) (t : ℕ) (list : List ℕ) (from : ℕ) : Type 0 where
  pub steps : list ≡ appended before at (copy_steps L b (copied h s t))
  pub number : from ≡ length (copied h s t)
  pub few : from + suc s ≤ t
  pub long : length list ≡ length before

module _ (h : ℕ) (L : Leaf) (b s at : ℕ) (before : List ℕ) where
  pub copied_start : CopiedTo h L b s at before (s + 1) before 0
  unfolding appended
  copied_start = record {
    steps = rw (copied_none h s);
    number = rw (copied_none h s);
    few = omega arith;
    long = refl;
  }

  module _ (t : ℕ) (list r : List ℕ) (from j : ℕ) (l : s < t) (c : CopiedTo h L b s at before t list from) where
    copied_on : (ds : List Copy) → copies (occ_in h) from t 1 ≡ ds → r ≡ appended list (at + 2 * from) (copy_steps L b ds)
        → j ≡ from + length ds → length ds ≤ 1 → CopiedTo h L b s at before (t + 1) r j
    copied_on ds e q n m =
        let d : copied h s (t + 1) ≡ copied h s t ++ ds =
        copied_next h s t from l c.number ∙ ap (λ (x : List Copy). copied h s t ++ x) e in
        let z : length (copy_steps L b (copied h s t)) ≡ 2 * length (copied h s t) = copy_length L b (copied h s t) in
        record {
          steps = stretch_more before list at (at + 2 * from) (copy_steps L b (copied h s t)) c.steps
              (omega (arith, c.number)) r (copy_steps L b ds) q
              ∙ ap (appended before at) (sym (ap (copy_steps L b) d ∙ steps_append L b (copied h s t) ds));
          number = n ∙ ap (λ (x : ℕ). x + length ds) c.number ∙ sym (ap length d ∙ length-append (copied h s t) ds);
          few = omega (arith, c.few);
          long = ap length q ∙ appended_length (copy_steps L b ds) list (at + 2 * from) ∙ c.long;
        }

    pub copied_taken : occ_in h t ≡ true → r ≡ list → j ≡ from → CopiedTo h L b s at before (t + 1) r j
    unfolding appended
    copied_taken e q n = copied_on [] (copies_taken (occ_in h) from t e) q (omega arith) (omega arith)

    pub copied_vacant : (k v : ℕ) → occ_in h t ≡ false → k ≡ L.key from → v ≡ L.val from
        → r ≡ appended list (at + 2 * from) (entry_steps b t k v) → j ≡ from + 1 → CopiedTo h L b s at before (t + 1) r j
    copied_vacant k v e ek ev q n =
        copied_on (record { from = from; to = t } ∷ []) (copies_vacant (occ_in h) from t e) (rw (← ek, ← ev) q) n (omega arith)

  pub copied_end : (t : ℕ) (list : List ℕ) (from : ℕ) → t ≡ last_beside s + 1 → CopiedTo h L b s at before t list from
      → (list ≡ appended before at (copy_steps L b (copies_beside h s))) × (from ≡ length (copies_beside h s))
  copied_end t list from e c = (
    c.steps ∙ ap (λ (k : List Copy). appended before at (copy_steps L b k)) (copied_all h s t e),
    c.number ∙ ap (λ (k : List Copy). length k) (copied_all h s t e),
  )

-- the header with the copies so far
pub record FilledTo (h : ℕ) (L : Leaf) (s k t filled from : ℕ) : Type 0 where
  pub bits : filled ≡ copied_head L (marked h s (fingerprint_of k)) (copied h s t)
  pub number : from ≡ length (copied h s t)
  pub few : from + suc s ≤ t

module _ (h : ℕ) (L : Leaf) (s k : ℕ) where
  pub filled_start : (f : ℕ) → f ≡ marked h s (fingerprint_of k) → FilledTo h L s k (s + 1) f 0
  filled_start f e = record { bits = rw (copied_none h s) e; number = rw (copied_none h s); few = omega arith }

  module _ (t f from : ℕ) (l : s < t) (c : FilledTo h L s k t f from) where
    filled_on : (ds : List Copy) (g j : ℕ) → copies (occ_in h) from t 1 ≡ ds → g ≡ copied_head L f ds → j ≡ from + length ds
        → length ds ≤ 1 → FilledTo h L s k (t + 1) g j
    filled_on ds g j e q n m =
        let d : copied h s (t + 1) ≡ copied h s t ++ ds =
        copied_next h s t from l c.number ∙ ap (λ (x : List Copy). copied h s t ++ x) e in
        record {
          bits = q ∙ ap (λ (x : ℕ). copied_head L x ds) c.bits ∙ sym (ap (copied_head L first) d
              ∙ head_append L first (copied h s t) ds);
          number = n ∙ ap (λ (x : ℕ). x + length ds) c.number ∙ sym (ap length d ∙ length-append (copied h s t) ds);
          few = omega (arith, c.few);
        }
      where
        first : ℕ
        first = marked h s (fingerprint_of k)

    pub filled_taken : (g j : ℕ) → occ_in h t ≡ true → g ≡ f → j ≡ from → FilledTo h L s k (t + 1) g j
    filled_taken g j e q n = filled_on [] g j (copies_taken (occ_in h) from t e) q (omega arith) (omega arith)

    pub filled_vacant : (g j : ℕ) → occ_in h t ≡ false → g ≡ marked (cleared f from) t (fingerprint_of (L.key from))
        → j ≡ from + 1
        → FilledTo h L s k (t + 1) g j
    filled_vacant g j e q n =
        filled_on (record { from = from; to = t } ∷ []) g j (copies_vacant (occ_in h) from t e) q n (omega arith)

  pub filled_end : (t f from : ℕ) → t ≡ last_beside s + 1 → FilledTo h L s k t f from → f ≡ filled_head h L s k
  unfolding filled_head
  filled_end t f from e c = c.bits ∙ ap (copied_head L (marked h s (fingerprint_of k))) (copied_all h s t e)
