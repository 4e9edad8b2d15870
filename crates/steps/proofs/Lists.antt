-- Lists of steps: what holds of each step, where an index of two joined lists falls, and what a whole list leaves.
use Rattle.std.specs.Prelude.{ℕ, zero, suc, ◌+◌, ◌<◌, Bool, true, List, [], ◌∷◌, ◌++◌, ◌≡◌, refl, length}
use Rattle.std.proofs.Common.{arith, sym, ap, ap₂, ◌∙◌, get_or-append-add}
use Rattle.std.proofs.Math.ListN.{get_or-append}
use Rattle.words.specs.Below.{count_below}
use Rattle.words.specs.BelowLaws.{count_from, count_cong}
use Rattle.steps.specs.Model.{Step, store, write_back, fence, land, run}
use Rattle.steps.specs.Encoding.{steps_of}
use Rattle.steps.specs.Lists.{Each, run_all}

-- of a step, if it is a store, its place and value
abbrev pub Into : (ℕ → ℕ → Type 0) → Step → Type 0
Into Q (store p v) = Q p v
Into Q (write_back k) = Unit {0}
Into Q fence = Unit {0}

-- no stores
abbrev pub Still : List Step → Type 0
Still l = Each (Into (λ p v. ⊥)) l

pub each_append : (P : Step → Type 0) (k l : List Step) → Each P k → Each P l → Each P (k ++ l)
each_append P [] l a b = b
each_append P (x ∷ k) l a b = (a.0, each_append P k l a.1 b)

pub each_at : (P : Step → Type 0) (l : List Step) (i : ℕ) → Each P l → i < length l → P (steps_of l i)
each_at P [] i a h = absurd (omega arith)
each_at P (x ∷ l) zero a h = a.0
each_at P (x ∷ l) (suc i) a h = each_at P l i a.1 (omega arith)

pub into_map : (P Q : ℕ → ℕ → Type 0) → ((p v : ℕ) → P p v → Q p v) → (l : List Step) → Each (Into P) l → Each (Into Q) l
into_map P Q f [] a = tt
into_map P Q f (store p v ∷ l) a = (f p v a.0, into_map P Q f l a.1)
into_map P Q f (write_back k ∷ l) a = (tt, into_map P Q f l a.1)
into_map P Q f (fence ∷ l) a = (tt, into_map P Q f l a.1)

pub at_left : (k l : List Step) (i : ℕ) → i < length k → steps_of (k ++ l) i ≡ steps_of k i
at_left k l i h = get_or-append k l fence i h

pub at_right : (k l : List Step) (i : ℕ) → steps_of (k ++ l) (length k + i) ≡ steps_of l i
at_right k l i = get_or-append-add k l i fence

-- a store of a list's first part
pub stored_in : (Q : ℕ → ℕ → Type 0) (k l : List Step) (i p v : ℕ) → Each (Into Q) k → i < length k
    → steps_of (k ++ l) i ≡ store p v → Q p v
stored_in Q k l i p v a h e = rw (sym (at_left k l i h) ∙ e) at (each_at (Into Q) k i a h)

-- how many steps of two joined lists pass a test: line writes and word writes are so counted
pub count_append : (f : Step → Bool) (k l : List Step)
    → count_below (λ i. f (steps_of (k ++ l) i)) (length k + length l)
    ≡ count_below (λ i. f (steps_of k i)) (length k) + count_below (λ i. f (steps_of l i)) (length l)
count_append f k l =
    count_from (λ i. f (steps_of (k ++ l) i)) (length k) (length l)
    ∙ ap₂ ◌+◌
    (count_cong (λ i. f (steps_of (k ++ l) i)) (λ i. f (steps_of k i)) (length k) (λ i h. ap f (at_left k l i h)))
    (count_cong (λ i. f (steps_of (k ++ l) (length k + i))) (λ i. f (steps_of l i)) (length l) (λ i h. ap f (at_right k l i)))

-- a whole list run from its head
module _ {M : Type 0} (write : M → ℕ → ℕ → M) where
  run_cons : (x : Step) (l : List Step) (m : M) (n : ℕ)
      → run write (steps_of (x ∷ l)) m (suc n) ≡ run write (steps_of l) (land write true x m) n
  run_cons x l m zero = refl
  run_cons x l m (suc n) = ap (land write true (steps_of l n)) (run_cons x l m n)

  pub run_all_lem : (l : List Step) (m : M) → run write (steps_of l) m (length l) ≡ (run_all write) l m
  run_all_lem [] m = refl
  run_all_lem (x ∷ l) m = run_cons x l m (length l) ∙ run_all_lem l (land write true x m)

  pub run_all_append : (k l : List Step) (m : M) → (run_all write) (k ++ l) m ≡ (run_all write) l ((run_all write) k m)
  run_all_append [] l m = refl
  run_all_append (x ∷ k) l m = run_all_append k l (land write true x m)
