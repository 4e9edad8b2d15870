-- What is looked for in a leaf.
use Rattle.std.specs.Prelude.{Bool, true, false, not, ℕ, zero, suc, ltb, leb, eqb, Option, Some, None}
use Rattle.words.specs.Bools.{both}
use Rattle.words.specs.Below.{count_below}
use Rattle.header.specs.Header.{fingerprint_of}
use Rattle.leaf.specs.Leaf.{Leaf}

-- the lowest slot that passes a test, of the n from s on
abbrev pub pick_slot : Bool → ℕ → Option ℕ → Option ℕ
pick_slot true s other = Some s
pick_slot false s other = other

unfoldable pub lowest : (ℕ → Bool) → ℕ → ℕ → Option ℕ
lowest f zero s = None
lowest f (suc n) s = pick_slot (f s) s (lowest f n (suc s))

-- Slot s is occupied and holds the key. (01's slip: "A match on fingerprint alone, or on a vacant slot.")
unfoldable pub holds_key : Leaf → ℕ → ℕ → Bool
holds_key L k s = both (L.occ s) (both (eqb (L.fp s) (fingerprint_of k)) (eqb (L.key s) k))

unfoldable pub slot_of : Leaf → ℕ → Option ℕ
slot_of L k = lowest (holds_key L k) L.size 0

-- "take the lowest vacant slot", where occ says which of n slots are occupied
unfoldable pub lowest_vacant : (ℕ → Bool) → ℕ → Option ℕ
lowest_vacant occ n = lowest (λ s. not (occ s)) n 0

-- the occupied slot with the smallest key at or above k, of the first n slots
abbrev pub nearer : Leaf → ℕ → Option ℕ → Bool
nearer L s (Some t) = ltb (L.key s) (L.key t)
nearer L s None = true

abbrev pub closer : Leaf → ℕ → ℕ → Option ℕ → Option ℕ
closer L k s best = pick_slot (both (L.occ s) (both (leb k (L.key s)) (nearer L s best))) s best

unfoldable pub closest : Leaf → ℕ → ℕ → Option ℕ
closest L k zero = None
closest L k (suc n) = closer L k n (closest L k n)

unfoldable pub least_from : Leaf → ℕ → Option ℕ
least_from L k = closest L k L.size

-- "each leaf's smallest key (0 for an empty block 0)"
abbrev pub key_or0 : Leaf → Option ℕ → ℕ
key_or0 L (Some s) = L.key s
key_or0 L None = 0

unfoldable pub smallest_of : Leaf → ℕ
smallest_of L = key_or0 L (least_from L 0)

-- how many slots are occupied
unfoldable pub count : Leaf → ℕ
count L = count_below L.occ L.size
