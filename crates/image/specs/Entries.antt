-- The entries of a leaf and of a chain as rising lists, by taking the least key from one on over and over.
use mathlib.Core.List.{List, [], ◌∷◌, ◌++◌}
use Prim.Native.Nat.{ℕ}
use Rattle.leaf.specs.Leaf.{Leaf}
use Rattle.image.specs.Map.{Entry, entry}
use Rattle.image.specs.Order.{slots_of}

-- the entries of some slots
abbrev pub entry_in : Leaf → ℕ → Entry
entry_in L s = entry (L.key s) (L.val s)

unfoldable pub entries_at : Leaf → List ℕ → List Entry
entries_at L [] = []
entries_at L (s ∷ ss) = entry_in L s ∷ entries_at L ss

-- the entries of a leaf, and of the leaves of a chain
unfoldable pub entries_of : Leaf → List Entry
entries_of L = entries_at L (slots_of L)

unfoldable pub list_of : (ℕ → Leaf) → List ℕ → List Entry
list_of I [] = []
list_of I (b ∷ bs) = entries_of (I b) ++ list_of I bs
