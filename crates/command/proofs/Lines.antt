-- Reading line after line visits the lines of the input, all of them and in order.
use Rattle.std.specs.Prelude.{◌≡◌, refl, Bool, true, false, cond, List, [], ◌∷◌, map, ℕ, suc, ◌+◌, ◌≤◌, ◌<◌, eqb, length, take, drop, Option, Some, None}
use Rattle.std.proofs.Common.{ap, ◌∙◌, not-suc-le-zero, arith, lt-ltb, le-ltb, length-drop, drop_of_length-le, drop-drop}
use Rattle.std.proofs.Math.Decide.{dec_lt}
use Rattle.command.specs.Spelling.{onto, before, lines_in}
use Rattle.command.specs.Reading.{until, parse_of, past_line, line_at}
use Rattle.command.specs.declared.Command.{Command}

-- an input that is not empty has a first line, up to its first byte 10, and the lines behind that
first_line : (l : List ℕ) → 0 < length l → lines_in l ≡ take (until 10 l) l ∷ lines_in (drop (suc (until 10 l)) l)
unfolding lines_in until
first_line [] h = absurd (not-suc-le-zero h)
first_line (b ∷ []) h = go (eqb b 10)
  where
    go : (t : Bool) → before t b [] ≡ take (cond t 0 1) (b ∷ []) ∷ lines_in (drop (suc (cond t 0 1)) (b ∷ []))
    go true = refl
    go false = refl
first_line (b ∷ c ∷ l) h = go (eqb b 10) (until 10 (c ∷ l)) (first_line (c ∷ l) (omega arith))
  where
    go : (t : Bool) (n : ℕ) → lines_in (c ∷ l) ≡ take n (c ∷ l) ∷ lines_in (drop (suc n) (c ∷ l))
        → before t b (lines_in (c ∷ l))
        ≡ take (cond t 0 (suc n)) (b ∷ c ∷ l) ∷ lines_in (drop (suc (cond t 0 (suc n))) (b ∷ c ∷ l))
    go true n ih = refl
    go false n ih = ap (onto b) ih

-- the commands of the lines from a place on, none for a malformed one, ..
abbrev pub commands_from : List ℕ → ℕ → List (Option Command)
commands_from l at = map parse_of (lines_in (drop at l))

abbrev pub continues : List ℕ → Option (Option Command × ℕ) → List (Option Command)
continues l (Some line) = line.0 ∷ commands_from l line.1
continues l None = []

-- .. are the command that is read there and those from the next place on, or none at the end
pub line_step : (l : List ℕ) (at : ℕ) → commands_from l at ≡ continues l (line_at l at)
unfolding line_at lines_in
line_step l at =
    elim (dec_lt at (length l)) [
      | yes h ↦ rw (lt-ltb at (length l) h) (ap (map parse_of) (first_line r (rw (length-drop at l) (omega arith)) ∙ behind))
      | no h ↦ let le : length l ≤ at = omega arith in rw (le-ltb at (length l) le, drop_of_length-le l le)
    ]
  where
    r : List ℕ
    r = drop at l

    behind : take (until 10 r) r ∷ lines_in (drop (suc (until 10 r)) r)
        ≡ take (until 10 r) r ∷ lines_in (drop (past_line (at + until 10 r)) l)
    behind =
        let e : at + suc (until 10 r) ≡ past_line (at + until 10 r) = omega arith in
        ap (λ (k : List ℕ). take (until 10 r) r ∷ lines_in k)
        (drop-drop (suc (until 10 r)) at l ∙ ap (λ (i : ℕ). drop i l) e)
