-- What one turn of the loop that reads a number does to the answer of its rest.
use Rattle.std.specs.Prelude.{◌≡◌, refl, List, [], ◌∷◌, ℕ, ◌+◌, ◌≤◌, ◌<◌, length, get_or, drop, Option, None}
use Rattle.std.proofs.Common.{add-one, drop_of_length-le, drop-cons}
use Rattle.number.specs.Reading.{pushed, pushed_all}

pub pushed_next : (n : Option ℕ) (l : List ℕ) (i : ℕ) → i < length l
    → pushed_all n (drop i l) ≡ pushed_all (pushed n (get_or l i 0)) (drop (i + 1) l)
unfolding pushed_all
pushed_next n l i h = rw (add-one i, drop-cons l i 0 h)

pub pushed_end : (n : Option ℕ) (l : List ℕ) (i : ℕ) → length l ≤ i → pushed_all n (drop i l) ≡ n
unfolding pushed_all
pushed_end n l i h = rw (drop_of_length-le l h)

-- what is no number stays none, whatever stands behind it
pub pushed_none : (l : List ℕ) → pushed_all None l ≡ None
unfolding pushed_all
pushed_none [] = refl
pushed_none (b ∷ l) = pushed_none l

-- what the loop needs, turn by turn
pub ruleset reading = (pushed_next, pushed_end, pushed_none)
