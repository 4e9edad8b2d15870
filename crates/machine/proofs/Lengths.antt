-- No step changes how long an image is.
use Rattle.std.specs.Prelude.{ℕ, ◌*◌, List, ◌≡◌, refl, length}
use Rattle.std.proofs.Common.{sym, ap, ◌∙◌}
use Rattle.words.specs.Words.{store_word}
use Rattle.words.specs.WordLaws.{length_store}
use Rattle.steps.specs.Model.{Steps, line, made, run, cut}
use Rattle.steps.proofs.Section.{cut_keeps, cut_made}

pub cut_length : (s : Steps) (a : ℕ → ℕ) (m : List ℕ) (n : ℕ) → length (cut store_word line s a m n) ≡ length m
cut_length s a m n =
    cut_keeps line store_word (λ p v. Unit {0}) (λ x. length x ≡ length m) (λ x p v u h. length_store x (8 * p) v ∙ h) s a m n
    (λ i p v l e t. tt)
    refl

pub run_length : (s : Steps) (m : List ℕ) (n : ℕ) → length (run store_word s m n) ≡ length m
run_length s m n = ap length (sym (cut_made line store_word s m n)) ∙ cut_length s (made line s n) m n
