-- What is promised of a list, in bytes: the image that run and cut leave has as many bytes as before, and its words are
-- those that the promise in words is about. To be believed.
use Rattle.std.specs.Prelude.{ℕ, ◌+◌, ◌≤◌, true, List, ◌≡◌, ◌⊎◌, length}
use Rattle.words.specs.Words.{reads, store_word}
use Rattle.words.specs.WordLaws.{Bytes}
use Rattle.steps.specs.declared.Step.{Step}
use Rattle.steps.specs.Model.{line, run, cut, Rule, Permitted}
use Rattle.steps.specs.Settling.{AllSettled}
use Rattle.steps.specs.Encoding.{in_image, steps_of}
use Rattle.steps.specs.Lists.{Each}
use Rattle.image.specs.Map.{Entry}
use Rattle.image.specs.Image.{blocks, leaves}
use Rattle.image.specs.Potential.{phi}
use Rattle.image.specs.Entries.{list_of}
use Rattle.lists.specs.Served.{per_cut, Left, spent}

-- the image m is what a list left of the image l
pub record LeftBytes (l m : List ℕ) (es : List Entry) (cost bound : ℕ) : Type 0 where
  pub long : length m ≡ length l
  pub bytes : Bytes m
  pub left : Left (blocks m) (reads m) es cost bound

-- the promise of `Served`, in bytes
pub record ServedBytes (rule : Rule) (l : List ℕ) (bs : List ℕ) (t : List Step) (es : List Entry) (price : ℕ) : Type 0 where
  pub inside : Each (λ x. in_image (length l) x ≡ true) t
  pub settled : AllSettled rule (steps_of t) (length t)
  pub whole : LeftBytes l (run store_word (steps_of t) l (length t)) es (spent t (length t)) (phi (leaves l) bs + price)
  pub cuts : (n : ℕ) (a : ℕ → ℕ) → n ≤ length t → Permitted line rule (steps_of t) n a
      → LeftBytes l (cut store_word line (steps_of t) a l n) (list_of (leaves l) bs) (spent t n) (phi (leaves l) bs + per_cut)
      ⊎ LeftBytes l (cut store_word line (steps_of t) a l n) es (spent t n) (phi (leaves l) bs + per_cut)
