-- Document 01, "The bench program": what each command does to the image, and the lines that it prints. To be believed.
use Rattle.std.specs.Prelude.{◌≡◌, Bool, cond, List, [], ◌∷◌, ◌++◌, map, ℕ, eqb, ltb, length, drop, replicate, Option, Some, None}
use Rattle.number.specs.Decimal.{decimal}
use Rattle.command.specs.Spelling.{parted}
use Rattle.command.specs.declared.Command.{Command}
use Rattle.command.specs.declared.Command.TheVariants.{Put, Set, Del, Get, List as Listing}
use Rattle.steps.specs.Refusals.{answer}
use Rattle.machine.specs.Taking.{run_of}
use Rattle.image.specs.Map.{Entry}
use Rattle.index.specs.Reading.{Told, find_of, listing_table, entries_in}
use Rattle.writing.specs.Writing.{Outcome, put_of, set_of, del_of}

-- "at most 65,536 bytes (more prints the one line `9 0 0 0`, with tabs, and does nothing else)"
abbrev pub too_long : List ℕ → Bool
too_long input = ltb 65536 (length input)

-- "Each output line ends in byte 10": the line that tells some numbers
abbrev pub line_of : List ℕ → List ℕ
line_of ns = parted (map decimal ns) ++ 10 ∷ []

-- some lines, one behind the other
unfoldable pub text_of : List (List ℕ) → List ℕ
text_of [] = []
text_of (ns ∷ lines) = line_of ns ++ text_of lines

-- a line written at the start of a buffer: n is its length, and what stands behind it is as it was
abbrev pub Written : List ℕ → List ℕ → List ℕ → ℕ → Type 0
Written old line new n = (n ≡ length line) × (new ≡ line ++ drop n old)

-- the image after a command, and the numbers of each line that it prints
pub record Performed : Type 0 where
  pub image : List ℕ
  pub printed : List (List ℕ)

abbrev pub performing : List ℕ → List (List ℕ) → Performed
performing image printed = record { image = image; printed = printed }

-- a command done: the image after it, and its lines at the start of a buffer, n bytes; what stands behind them is as it was
abbrev pub Done : Performed → List ℕ → List ℕ → List ℕ → ℕ → Type 0
Done p image old new n = (image ≡ p.image) × Written old (text_of p.printed) new n

-- the list that each call is lent
abbrev pub room : List ℕ
room = replicate 112 0

-- "Accepted lists are run whole." "put, set, del (..) print answer, steps, line writes, word writes"
abbrev pub taken : List ℕ → Outcome → Performed
taken image made =
    performing (cond (eqb made.answer 0) (run_of image made.list made.steps).image image)
    ((made.answer ∷ made.steps ∷ made.lines ∷ made.words ∷ []) ∷ [])

-- "get prints answer and value"
abbrev pub got : Told → List (List ℕ)
got found = (found.answer ∷ found.value ∷ []) ∷ []

-- "list prints key and value of each entry"
abbrev pub row : Entry → List ℕ
row e = e.key ∷ e.val ∷ []

abbrev pub rows : List ℕ → List (List ℕ)
rows image = cond (eqb (answer (listing_table image)) 0) (map row (entries_in image)) []

-- "A refusal tells 0 for every count"
abbrev pub refused : ℕ → List (List ℕ)
refused n = (n ∷ 0 ∷ 0 ∷ 0 ∷ []) ∷ []

-- 9: "bench program: line malformed", for a line that spells no command
unfoldable pub performed : Option Command → List ℕ → Performed
performed (Some (Put k v)) image = taken image (put_of image room k v)
performed (Some (Set k v)) image = taken image (set_of image room k v)
performed (Some (Del k)) image = taken image (del_of image room k)
performed (Some (Get k)) image = performing image (got (find_of image k))
performed (Some Listing) image = performing image (rows image)
performed None image = performing image (refused 9)
