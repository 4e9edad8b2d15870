-- What listing fills its buffers with.
use mathlib.Core.List.{List, [], ◌∷◌, ◌++◌}
use Prim.Native.Nat.{ℕ}
use Rattle.leaf.specs.Leaf.{Leaf}
use Rattle.image.specs.Map.{Entry}
use Rattle.image.specs.Order.{slots_from}
use Rattle.image.specs.Entries.{entries_at, list_of}

-- ---- one leaf

-- its entries with keys from lo on, rising
unfoldable pub entries_from : Leaf → ℕ → List Entry
entries_from L lo = entries_at L (slots_from L L.size lo)

-- ---- the leaves of a chain

-- the entries of some leaves, from lo on in the first of them
unfoldable pub list_from : (ℕ → Leaf) → ℕ → List ℕ → List Entry
list_from I lo [] = []
list_from I lo (b ∷ bs) = entries_from (I b) lo ++ list_of I bs
