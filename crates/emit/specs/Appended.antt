-- Steps written into a list from its step i on, and the list that this leaves.
use Rattle.std.specs.Prelude.{ℕ, suc, ◌+◌, ◌*◌, ◌≤◌, List, [], ◌∷◌, ◌++◌, ◌≡◌, refl, length}
use Rattle.std.proofs.Common.{arith, append_assoc, append-nil, sym, ap, ◌∙◌, length-append, length-set}
use Rattle.steps.specs.declared.Step.{Step}
use Rattle.steps.specs.Encoding.{written, put_step}
use Rattle.steps.proofs.EncodingLaws.{written_next}
use Rattle.lists.specs.Lists.{word_place}

unfoldable pub appended : List ℕ → ℕ → List Step → List ℕ
appended list i [] = list
appended list i (x ∷ l) = appended (put_step list i x) (suc i) l

-- one of the lists that are at most 14 steps long was written, and r tells how long it is
abbrev pub Wrote : List ℕ → ℕ → List Step → List ℕ → ℕ → Type 0
Wrote before at l behind r = (behind ≡ appended before at l) × (r ≡ length l) × (r ≤ 14)

pub appended_length : (l : List Step) (list : List ℕ) (i : ℕ) → length (appended list i l) ≡ length list
unfolding appended
appended_length [] list i = refl
appended_length (x ∷ l) list i = appended_length l (put_step list i x) (suc i) ∙ simp length-set

-- two stretches in a row are one
pub appended_append : (k l : List Step) (list : List ℕ) (i j : ℕ) → j ≡ i + length k
    → appended (appended list i k) j l ≡ appended list i (k ++ l)
unfolding appended
appended_append [] l list i j e = let q : j ≡ i = omega arith in ap (λ (n : ℕ). appended list n l) q
appended_append (x ∷ k) l list i j e = appended_append k l (put_step list i x) (suc i) j (omega arith)

pub step_first : (list r : List ℕ) (i : ℕ) (x : Step) → r ≡ put_step list i x → r ≡ appended list i (x ∷ [])
unfolding appended
step_first list r i x e = e

-- one stretch more
pub stretch_more : (list m : List ℕ) (i j : ℕ) (k : List Step) → m ≡ appended list i k → j ≡ i + length k → (r : List ℕ) (l : List Step) → r ≡ appended m j l → r ≡ appended list i (k ++ l)
stretch_more list m i j k so_far next r l e = e ∙ ap (λ (z : List ℕ). appended z j l) so_far ∙ appended_append k l list i j next

-- behind a list that is written already, the longer list is written
pub appended_written : (l p : List Step) (old : List ℕ) (i : ℕ) → i ≡ length p → 2 * length (p ++ l) ≤ length old
    → appended (written p old) i l ≡ written (p ++ l) old
unfolding appended
appended_written [] p old i e h = ap (λ (r : List Step). written r old) (sym (append-nil p))
appended_written (x ∷ l) p old i e h =
    let n : length (p ++ (x ∷ l)) ≡ length p + suc (length l) = length-append p (x ∷ l) in
    let m : length (p ++ (x ∷ [])) ≡ length p + 1 = length-append p (x ∷ []) in
    let q : (p ++ (x ∷ [])) ++ l ≡ p ++ (x ∷ l) = append_assoc p (x ∷ []) l in
    ap (λ (r : List ℕ). appended r (suc i) l)
    (ap (λ (j : ℕ). put_step (written p old) j x) e ∙ written_next p x old (omega arith))
    ∙ appended_written l (p ++ (x ∷ [])) old (suc i) (omega arith) (omega (arith, ap length q))
    ∙ ap (λ (r : List Step). written r old) q

-- from the start on it is the list written
pub appended_start : (l : List Step) (old : List ℕ) → 2 * length l ≤ length old → appended old 0 l ≡ written l old
unfolding written
appended_start l old h = appended_written l [] old 0 refl h

-- word 0 of a block, as the code says it
pub start_place : (b : ℕ) → 32 * b ≡ word_place b 0
start_place b = omega arith
