-- "Numbers are little-endian. A leaf has 32 words of 8 bytes": words in a list of bytes, the lowest byte first.
use Rattle.std.specs.Prelude.{ℕ, zero, suc, ◌+◌, ◌*◌, ◌/◌, ◌%◌, ◌^◌, List, [], ◌∷◌, get_or, set}

-- the number in the two, the four and the eight bytes at a place
abbrev pub pair_at : List ℕ → ℕ → ℕ
pair_at l p = get_or l p 0 + 256 * get_or l (p + 1) 0

abbrev pub four_at : List ℕ → ℕ → ℕ
four_at l p = pair_at l p + 65536 * pair_at l (p + 2)

unfoldable pub word_at : List ℕ → ℕ → ℕ
word_at l p = four_at l p + 4294967296 * four_at l (p + 4)

-- byte k of a number
abbrev pub byte_of : ℕ → ℕ → ℕ
byte_of v k = v / 256 ^ k % 256

-- the first n bytes of a number, from byte k on
abbrev pub bytes_of : ℕ → ℕ → ℕ → List ℕ
bytes_of v k zero = []
bytes_of v k (suc n) = byte_of v k ∷ bytes_of v (suc k) n

-- the list with vs stored from p + k on
abbrev pub stores : List ℕ → ℕ → ℕ → List ℕ → List ℕ
stores l p k [] = l
stores l p k (v ∷ vs) = stores (set l (p + k) v) p (suc k) vs

-- the list with the word v stored at p
unfoldable pub store_at : List ℕ → ℕ → ℕ → List ℕ
store_at l p v = stores l p 0 (bytes_of v 0 8)

-- an image as the theory reads it: its words by their number
unfoldable pub reads : List ℕ → ℕ → ℕ
reads l i = word_at l (8 * i)

-- and a store of its word p
abbrev pub store_word : List ℕ → ℕ → ℕ → List ℕ
store_word l p v = store_at l (8 * p) v
