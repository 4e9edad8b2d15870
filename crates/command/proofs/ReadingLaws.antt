-- What the library's methods say, in the words of the definitions.
use Rattle.std.specs.Prelude.{◌≡◌, refl, Bool, true, false, cond, List, [], ◌∷◌, ℕ, suc, ◌≤◌, eqb, length}
use Rattle.std.specs.List.{starts_with, position, position_or_len}
use Rattle.std.specs.Option.{unwrap_or}
use Rattle.std.proofs.Math.Decide.{dec_lt}
use Rattle.std.proofs.Common.{ap, arith, sym, ◌&&◌, eq-eqb, eqb-true, lt-ltb, le-ltb}
use Rattle.std.proofs.lemmas.List.Recursion.{is_position_or_len}
use Rattle.words.specs.Bools.{both, same_test}
use Rattle.command.specs.Reading.{until, begins}

-- ---- the next byte b

until_is : (b : ℕ) (l : List ℕ) → until b l ≡ position_or_len (λ x. eqb x b) l
unfolding until
until_is b = is_position_or_len (until b) (λ x. eqb x b) refl (λ x xs. ap (cond (eqb x b) 0) (omega arith))

until_le : (b : ℕ) (l : List ℕ) → until b l ≤ length l
unfolding until
until_le b [] = omega arith
until_le b (x ∷ xs) = go (eqb x b) (until_le b xs)
  where
    go : (t : Bool) → until b xs ≤ length xs → cond t 0 (suc (until b xs)) ≤ suc (length xs)
    go true ih = omega arith
    go false ih = omega arith

-- the place that `position` finds, or the length
pub position_until : (b : ℕ) (l : List ℕ) → unwrap_or (position (λ x. eqb x b) l) (length l) ≡ until b l
position_until b l =
    elim (dec_lt (position_or_len (λ x. eqb x b) l) (length l)) [
      | yes h ↦ rw (lt-ltb (position_or_len (λ x. eqb x b) l) (length l) h) (sym (until_is b l))
      | no h ↦ rw (le-ltb (position_or_len (λ x. eqb x b) l) (length l) (omega arith)) (omega (arith, until_is b l, until_le b l))
    ]

-- ---- a word at the start

and_both : (a b : Bool) → a && b ≡ both a b
and_both true b = refl
and_both false b = refl

eqb_sym : (a b : ℕ) → eqb a b ≡ eqb b a
eqb_sym a b =
    same_test (eqb a b) (eqb b a) (λ e. eq-eqb b a (sym (eqb-true a b e))) (λ e. eq-eqb a b (sym (eqb-true b a e)))

pub begins_is : (w l : List ℕ) → starts_with eqb l w ≡ begins w l
unfolding begins
begins_is [] l = refl
begins_is (a ∷ w) [] = refl
begins_is (a ∷ w) (b ∷ l) = rw (eqb_sym a b, begins_is w l) (and_both (eqb b a) (begins w l))
