-- Document 01, "The bench program": the lines of an input, and the spelling of a command.
use Rattle.std.specs.Prelude.{ℕ, ◌^◌, ◌<◌, Bool, true, false, List, [], ◌∷◌, ◌++◌, eqb}
use Rattle.number.specs.Decimal.{decimal}
use Rattle.command.specs.declared.Command.{Command}
use Rattle.command.specs.declared.Command.TheVariants.{Put, Set, Del, Get, List as Listing}

-- "One command a line, lines ended by byte 10 alone" and "A last line without its line end counts": a byte stands in
-- front of the first of the lines behind it, ..
abbrev pub onto : ℕ → List (List ℕ) → List (List ℕ)
onto b [] = (b ∷ []) ∷ []
onto b (l ∷ ls) = (b ∷ l) ∷ ls

-- .. and byte 10 ends a line of its own
abbrev pub before : Bool → ℕ → List (List ℕ) → List (List ℕ)
before true b ls = [] ∷ ls
before false b ls = onto b ls

unfoldable pub lines_in : List ℕ → List (List ℕ)
lines_in [] = []
lines_in (b ∷ bs) = before (eqb b 10) b (lines_in bs)

-- "fields parted by tabs"
abbrev pub parted : List (List ℕ) → List ℕ
parted [] = []
parted (f ∷ []) = f
parted (f ∷ g ∷ fs) = f ++ 9 ∷ parted (g ∷ fs)

-- "The words `put`, `set`, `del`, `get` and `list`"
abbrev pub put_word : List ℕ
put_word = 112 ∷ 117 ∷ 116 ∷ []

abbrev pub set_word : List ℕ
set_word = 115 ∷ 101 ∷ 116 ∷ []

abbrev pub del_word : List ℕ
del_word = 100 ∷ 101 ∷ 108 ∷ []

abbrev pub get_word : List ℕ
get_word = 103 ∷ 101 ∷ 116 ∷ []

abbrev pub list_word : List ℕ
list_word = 108 ∷ 105 ∷ 115 ∷ 116 ∷ []

-- "put and set take key and value, del and get a key, list nothing": the one line that says a command
abbrev pub spelling : Command → List ℕ
spelling (Put k v) = parted (put_word ∷ decimal k ∷ decimal v ∷ [])
spelling (Set k v) = parted (set_word ∷ decimal k ∷ decimal v ∷ [])
spelling (Del k) = parted (del_word ∷ decimal k ∷ [])
spelling (Get k) = parted (get_word ∷ decimal k ∷ [])
spelling Listing = parted (list_word ∷ [])

-- "Anything else, an empty line or a number above 2^64 − 1 included, is malformed": the numbers that a command may hold
abbrev pub InRange : Command → Type 0
InRange (Put k v) = (k < 2 ^ 64) × (v < 2 ^ 64)
InRange (Set k v) = (k < 2 ^ 64) × (v < 2 ^ 64)
InRange (Del k) = k < 2 ^ 64
InRange (Get k) = k < 2 ^ 64
InRange Listing = Unit
