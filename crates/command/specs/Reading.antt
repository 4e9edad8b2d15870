-- What each function that reads answers, in the shape of its code. What it means is proved in Exact and Lines.
use Rattle.std.specs.Prelude.{ℕ, suc, ◌+◌, Bool, true, false, cond, List, [], ◌∷◌, ◌++◌, eqb, ltb, length, take, drop, Option, Some, None}
use Rattle.words.specs.Bools.{both}
use Rattle.number.specs.Reading.{spelled_by}
use Rattle.command.specs.Spelling.{put_word, set_word, del_word, get_word, list_word}
use Rattle.command.specs.declared.Command.{Command}
use Rattle.command.specs.declared.Command.TheVariants.{Put, Set, Del, Get, List as Listing}

-- how many bytes stand before the first b
unfoldable pub until : ℕ → List ℕ → ℕ
until b [] = 0
until b (x ∷ xs) = cond (eqb x b) 0 (suc (until b xs))

-- the list begins with the word
unfoldable pub begins : List ℕ → List ℕ → Bool
begins [] l = true
begins (w ∷ ws) [] = false
begins (w ∷ ws) (b ∷ l) = both (eqb b w) (begins ws l)

abbrev pub field_of : Option ℕ → ℕ → Option (ℕ × ℕ)
field_of (Some n) end = Some (n, end)
field_of None end = None

abbrev pub field_at : List ℕ → ℕ → Option (ℕ × ℕ)
field_at l at = field_of (spelled_by (take (until 9 (drop at l)) (drop at l))) (at + until 9 (drop at l))

abbrev pub rest_at : List ℕ → ℕ → Option ℕ
rest_at l at = spelled_by (drop at l)

abbrev pub pair_of : ℕ → Option ℕ → Option (ℕ × ℕ)
pair_of k (Some v) = Some (k, v)
pair_of k None = None

-- the place behind the tab that ends a field
abbrev pub past_tab : ℕ → ℕ
past_tab end = end + 1

abbrev pub pair_from : List ℕ → Option (ℕ × ℕ) → Option (ℕ × ℕ)
pair_from l (Some field) = pair_of field.0 (rest_at l (past_tab field.1))
pair_from l None = None

abbrev pub pair_at : List ℕ → ℕ → Option (ℕ × ℕ)
pair_at l at = pair_from l (field_at l at)

-- the command of a pair of numbers, and of one, where they are spelled
abbrev pub of_pair : (ℕ → ℕ → Command) → Option (ℕ × ℕ) → Option Command
of_pair command (Some pair) = Some (command pair.0 pair.1)
of_pair command None = None

abbrev pub of_key : (ℕ → Command) → Option ℕ → Option Command
of_key command (Some k) = Some (command k)
of_key command None = None

abbrev pub tabbed : List ℕ → List ℕ
tabbed word = word ++ 9 ∷ []

unfoldable pub parse_of : List ℕ → Option Command
parse_of l =
    cond (begins (tabbed put_word) l) (of_pair Put (pair_at l 4))
    (cond (begins (tabbed set_word) l) (of_pair Set (pair_at l 4))
    (cond (begins (tabbed del_word) l) (of_key Del (rest_at l 4))
    (cond (begins (tabbed get_word) l) (of_key Get (rest_at l 4))
    (cond (eqb (length l) 4) (cond (begins list_word l) (Some Listing) None) None))))

-- the place behind the byte 10 that ends a line
abbrev pub past_line : ℕ → ℕ
past_line end = end + 1

-- the line that starts at a place of the input
unfoldable pub line_at : List ℕ → ℕ → Option (Option Command × ℕ)
line_at l at =
    cond (ltb at (length l))
    (Some (parse_of (take (until 10 (drop at l)) (drop at l)), past_line (at + until 10 (drop at l))))
    None
