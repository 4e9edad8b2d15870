-- The shape of the longer lists, `two_parts`: how long it is, what is counted in it, what it leaves, and that it is a
-- section.
use Rattle.std.specs.Prelude.{ℕ, ◌+◌, Bool, List, [], ◌∷◌, ◌++◌, ◌≡◌, refl, ◌⊎◌, length}
use Rattle.std.proofs.Common.{arith, ap, ◌∙◌, length-append}
use Rattle.words.specs.Below.{count_below}
use Rattle.steps.specs.declared.Step.{Step}
use Rattle.steps.specs.declared.Step.TheVariants.{Store as store, WriteBack as write_back, Fence as fence}
use Rattle.steps.specs.Encoding.{steps_of}
use Rattle.steps.specs.Lists.{Each, run_all}
use Rattle.steps.proofs.Lists.{Into, Still, each_append, count_append, run_all_lem, run_all_append}
use Rattle.steps.specs.Model.{line, run, Rule, is_line_write, is_word_write}
use Rattle.steps.proofs.Settling.{Lawful}
use Rattle.steps.specs.Section.{Section}
use Rattle.steps.proofs.Rules.{lines_in_lines}
use Rattle.steps.specs.Shapes.{one_store, two_parts}
use Rattle.steps.proofs.Shapes.{Backed, two_part_section}
use Rattle.lists.specs.Served.{lines_of, words_of}

-- ---- counting along a list

-- how many of its steps pass a test: `lines_of` and `words_of` are so counted
abbrev pub total_of : (Step → Bool) → List Step → ℕ
total_of f l = count_below (λ i. f (steps_of l i)) (length l)

pub total_append : (f : Step → Bool) (k l : List Step) → total_of f (k ++ l) ≡ total_of f k + total_of f l
total_append f k l = rw (length-append k l) (count_append f k l)

-- a list of stores has no line writes
abbrev pub IsStore : Step → Type 0
IsStore (store p v) = Unit {0}
IsStore (write_back k) = ⊥
IsStore fence = ⊥

pub stores_lines : (l : List Step) → Each IsStore l → lines_of l ≡ 0
unfolding count_below
stores_lines [] a = refl
stores_lines (store p v ∷ l) a = omega (arith, total_append is_line_write (store p v ∷ []) l, stores_lines l a.1)
stores_lines (write_back k ∷ l) a = absurd a.0
stores_lines (fence ∷ l) a = absurd a.0

-- .. and nothing but word writes
pub stores_words : (l : List Step) → Each IsStore l → words_of l ≡ length l
unfolding count_below
stores_words [] a = refl
stores_words (store p v ∷ l) a = omega (arith, total_append is_word_write (store p v ∷ []) l, stores_words l a.1)
stores_words (write_back k ∷ l) a = absurd a.0
stores_words (fence ∷ l) a = absurd a.0

-- ---- the stores s, their write-backs r, a fence, the stores t, and the switch

module _ (s r t : List Step) (p v : ℕ) where
  pub parts_length : length (two_parts s r t p v) ≡ length s + length r + length t + 4
  parts_length =
      omega (
        arith,
        length-append s (r ++ fence ∷ (t ++ one_store p v)),
        length-append r (fence ∷ (t ++ one_store p v)),
        length-append t (one_store p v),
      )

  pub parts_total : (f : Step → Bool)
      → total_of f (two_parts s r t p v) ≡ total_of f s + total_of f r + total_of f (fence ∷ []) + total_of f t + total_of f (one_store p v)
  parts_total f =
      omega (
        arith,
        total_append f s (r ++ fence ∷ (t ++ one_store p v)),
        total_append f r (fence ∷ (t ++ one_store p v)),
        total_append f (fence ∷ []) (t ++ one_store p v),
        total_append f t (one_store p v),
      )

  pub parts_each : (P : Step → Type 0) → Each P s → Each P r → P fence → Each P t → P (store p v) → P (write_back (line p))
      → Each P (two_parts s r t p v)
  parts_each P a b f c d e =
      each_append P s (r ++ fence ∷ (t ++ one_store p v)) a
      (each_append P r (fence ∷ (t ++ one_store p v)) b (f, each_append P t (one_store p v) c (d, (e, (f, tt)))))

  -- write-backs change nothing, so it is the stores' image with the switch
  module _ {M : Type 0} (write : M → ℕ → ℕ → M) where
    still_run : (l : List Step) (m : M) → Still l → run_all write l m ≡ m
    still_run [] m a = refl
    still_run (store q x ∷ l) m a = absurd a.0
    still_run (write_back k ∷ l) m a = still_run l m a.1
    still_run (fence ∷ l) m a = still_run l m a.1

    pub parts_run : (m : M) → Still r
        → run write (steps_of (two_parts s r t p v)) m (length (two_parts s r t p v)) ≡ write (run_all write t (run_all write s m)) p v
    parts_run m a =
        run_all_lem write (two_parts s r t p v) m
        ∙ run_all_append write s (r ++ fence ∷ (t ++ one_store p v)) m
        ∙ run_all_append write r (fence ∷ (t ++ one_store p v)) (run_all write s m)
        ∙ ap (run_all write (t ++ one_store p v)) (still_run r (run_all write s m) a)
        ∙ run_all_append write t (one_store p v) (run_all write s m)

  pub parts_section : (rule : Rule) → Lawful rule → (U : ℕ → ℕ → Type 0)
      → Each (Into (λ q x. U q x × (Backed r (line q) ⊎ (line q ≡ line p)))) s → Still r
      → Each (Into (λ q x. U q x × (line q ≡ line p))) t
      → Section line rule U (steps_of (two_parts s r t p v)) (length (two_parts s r t p v))
  parts_section rule L U a b c =
      let e : length s + (length r + 1) + length t + 3 ≡ length (two_parts s r t p v) = omega (arith, parts_length) in
      rw e at (two_part_section line lines_in_lines rule L U s r t p v a b c)
