-- The header of a leaf as one number of 128 bits: word 0, and word 1 above it.
use Rattle.std.specs.Prelude.{Bool, List, [], ◌∷◌, ℕ, zero, suc, ◌+◌, ◌-◌, ◌*◌, ◌/◌, ◌%◌, ◌^◌, eqb}
use Rattle.std.specs.Int.Bits.{bit_xor}
use Rattle.words.specs.Words.{word_at}
use Rattle.header.specs.Fields.{field, patched}
use Rattle.header.specs.declared.Header.{Header}

-- "Word 0 so holds the bit array and fingerprints 0 to 5; word 1 holds fingerprints 6 to 13"
abbrev pub whole : ℕ → ℕ → ℕ
whole low high = high * 2 ^ 64 + low

abbrev pub bits_of : Header → ℕ
bits_of h = whole h.low h.high

-- the header that starts at a place of a list of bytes
unfoldable pub head_at : List ℕ → ℕ → ℕ
head_at l p = whole (word_at l p) (word_at l (p + 8))

-- "bit array: bit s (0 to 13) says slot s is occupied, bit 14 lock, bit 15 alt"
unfoldable pub is_occupied : ℕ → ℕ → Bool
is_occupied n s = eqb (field n s 1) 1

unfoldable pub is_locked : ℕ → Bool
is_locked n = eqb (field n 14 1) 1

unfoldable pub alt_in : ℕ → ℕ
alt_in n = field n 15 1

-- byte "2 + s: fingerprint of slot s"
unfoldable pub fingerprint_in : ℕ → ℕ → ℕ
fingerprint_in n s = field n (16 + 8 * s) 8

-- "one slot is marked or cleared, and the new header comes back": marked with the fingerprint of its key
unfoldable pub marked : ℕ → ℕ → ℕ → ℕ
marked n s f = patched (patched n s 1 1) (16 + 8 * s) 8 f

unfoldable pub cleared : ℕ → ℕ → ℕ
cleared n s = patched n s 1 0

abbrev pub cleared_all : ℕ → List ℕ → ℕ
cleared_all n [] = n
cleared_all n (s ∷ ss) = cleared_all (cleared n s) ss

-- "alt flipped"
unfoldable pub flipped : ℕ → ℕ
flipped n = patched n 15 1 (1 - alt_in n)

-- "The fingerprint of a key is the exclusive-or of its eight bytes"
unfoldable pub xor_of_bytes : ℕ → ℕ → ℕ
xor_of_bytes zero v = 0
xor_of_bytes (suc n) v = bit_xor (v % 256) (xor_of_bytes n (v / 256))

-- Nothing above this crate unfolds it: callers cite HeaderLaws.
unfoldable pub fingerprint_of : ℕ → ℕ
fingerprint_of k = xor_of_bytes 8 k
