-- Of the commands only a malformed line prints 9 0 0 0: no call's table of refusals has 9, and get and list print another width.
use Rattle.std.specs.Prelude.{◌≡◌, refl, Bool, true, false, cond, List, [], ◌∷◌, map, ◌≢◌, ℕ, eqb}
use Rattle.std.proofs.Common.{ap, arith}
use Rattle.words.specs.Bools.{by_test}
use Rattle.steps.specs.Refusals.{answer}
use Rattle.image.specs.Map.{Entry}
use Rattle.index.specs.Reading.{entries_in, listing_table}
use Rattle.writing.specs.Writing.{put_table, change_table, put_of, set_of, del_of}
use Rattle.command.specs.declared.Command.{Command}
use Rattle.command.specs.declared.Command.TheVariants.{Put, Set, Del, Get, List as Listing}
use Rattle.perform.specs.Perform.{room, row, refused, performed}
use Rattle.std.specs.Prelude.{Bool, List, [], ◌∷◌, ◌≢◌, ℕ, length, Option, Some, None}

-- a table of other numbers does not answer n
abbrev Without : ℕ → List (ℕ × Bool) → Type 0
Without n [] = n ≢ 0
Without n (r ∷ rows) = (r.0 ≢ n) × Without n rows

-- the first number of the first line, and how many numbers that line has
abbrev lead : List (List ℕ) → ℕ
lead [] = 0
lead ([] ∷ lines) = 0
lead ((n ∷ ns) ∷ lines) = n

abbrev width : List (List ℕ) → ℕ
width [] = 0
width (line ∷ lines) = length line

other_answer : (n : ℕ) (rows : List (ℕ × Bool)) → Without n rows → answer rows ≢ n
other_answer n [] w = λ e. w (omega arith)
other_answer n (r ∷ rows) w =
    by_test (λ b. cond b r.0 (answer rows) ≢ n) r.1 (λ _. w.0) (λ _. other_answer n rows w.1)

narrow : (fine : Bool) (es : List Entry) → width (cond fine (map row es) []) ≢ 4
narrow true [] e = omega arith
narrow true (x ∷ es) e = omega arith
narrow false es e = omega arith

pub only_malformed : (c : Option Command) (image : List ℕ) → (performed c image).printed ≡ refused 9 → c ≡ None
unfolding performed put_of set_of del_of
only_malformed (Some (Put k v)) image e =
    absurd (other_answer 9 (put_table image room k)
    (omega arith, (omega arith, (omega arith, (omega arith, (omega arith, omega arith))))) (ap lead e))
only_malformed (Some (Set k v)) image e =
    absurd (other_answer 9 (change_table image room k) (omega arith, (omega arith, (omega arith, (omega arith, omega arith)))) (ap lead e))
only_malformed (Some (Del k)) image e =
    absurd (other_answer 9 (change_table image room k) (omega arith, (omega arith, (omega arith, (omega arith, omega arith)))) (ap lead e))
only_malformed (Some (Get k)) image e = absurd (let z : ◌≡◌ {A = ℕ} 2 4 = ap width e in omega arith)
only_malformed (Some Listing) image e = absurd (narrow (eqb (answer (listing_table image)) 0) (entries_in image) (ap width e))
only_malformed None image e = refl
