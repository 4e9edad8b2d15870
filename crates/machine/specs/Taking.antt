-- What run and cut answer and what they leave of the image, for all inputs. To be believed: this is their whole contract.
use Rattle.std.specs.Prelude.{ℕ, Result, Ok, Err, ◌*◌, ◌/◌, Bool, not, cond, ◌||◌, List, [], ◌∷◌, length, get_or, ltb, eqb}
pub use Rattle.words.specs.Words.{store_word}
use Rattle.words.specs.Below.{any_below}
use Rattle.steps.specs.Model.{line, made, run, cut, rule01, settled}
use Rattle.steps.specs.Encoding.{step_at, formed_at}
use Rattle.steps.specs.declared.refusal.Refusal.{Refusal}
use Rattle.steps.specs.Refusals.{answer, bad_image, number_of}

-- "When an answer is an enum, a definition gives this paper's number (..) for each of its cases."
abbrev pub ran_as : Result Unit Refusal → ℕ
ran_as (Ok _) = 0
ran_as (Err r) = number_of r

-- "given for each line how many of its stores in the first n steps arrived"
abbrev pub arrived : List ℕ → ℕ → ℕ
arrived arrivals l = get_or arrivals l 0

-- 7: "n over 56, list shorter than 2n words, or one of the first n steps malformed"
abbrev pub malformed : ℕ → List ℕ → ℕ → Bool
malformed size list i = not (formed_at size list i)

unfoldable pub bad_list : ℕ → List ℕ → ℕ → Bool
bad_list size list n = ltb 56 n || (ltb (length list) (2 * n) || any_below (malformed size list) n)

-- 10: "arrivals not one per line, or a line's number below its settled or above its made stores"
abbrev pub outside : List ℕ → ℕ → List ℕ → ℕ → Bool
outside list n arrivals l =
    ltb (arrived arrivals l) (settled line rule01 (step_at list) n l)
    || ltb (made line (step_at list) n l) (arrived arrivals l)

unfoldable pub bad_arrivals : ℕ → List ℕ → ℕ → List ℕ → Bool
bad_arrivals size list n arrivals =
    not (eqb (length arrivals) (size / 64)) || any_below (outside list n arrivals) (size / 64)

-- "Order: (..) for run and cut 1, 7, 10."
abbrev pub run_table : ℕ → List ℕ → ℕ → List (ℕ × Bool)
run_table size list n = (1, bad_image size) ∷ (7, bad_list size list n) ∷ []

abbrev pub cut_table : ℕ → List ℕ → ℕ → List ℕ → List (ℕ × Bool)
cut_table size list n arrivals = (1, bad_image size) ∷ (7, bad_list size list n) ∷ (10, bad_arrivals size list n arrivals) ∷ []

-- "An accepted call answers 0. A refusal (..) changes no buffer."
pub record Outcome : Type 0 where
  pub answer : ℕ
  pub image : List ℕ

abbrev pub outcome : ℕ → List ℕ → List ℕ → Outcome
outcome number before after = record { answer = number; image = cond (eqb number 0) after before }

abbrev pub run_of : List ℕ → List ℕ → ℕ → Outcome
run_of image list n = outcome (answer (run_table (length image) list n)) image (run store_word (step_at list) image n)

abbrev pub cut_of : List ℕ → List ℕ → ℕ → List ℕ → Outcome
cut_of image list n arrivals =
    outcome (answer (cut_table (length image) list n arrivals)) image
    (cut store_word line (step_at list) (arrived arrivals) image n)
