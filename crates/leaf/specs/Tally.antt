-- What one pass over a leaf's slots tells.
use Rattle.std.specs.Prelude.{◌≡◌, Bool, cond, not, ℕ, zero, suc, min, max, leb, eqb}
use Rattle.words.specs.Bools.{both}
use Rattle.words.specs.Below.{any_below, count_below}
use Rattle.header.specs.Header.{fingerprint_of}
use Rattle.leaf.specs.Leaf.{Leaf}
use Rattle.leaf.specs.Search.{count}
use Rattle.leaf.specs.declared.tally.Tally.{Tally}

-- slot s breaks "each occupied slot has its key's fingerprint"
unfoldable pub wrong_at : Leaf → ℕ → Bool
wrong_at L s = both (L.occ s) (not (eqb (L.fp s) (fingerprint_of (L.key s))))

-- the key of slot s is at most x
unfoldable pub at_most : Leaf → ℕ → ℕ → Bool
at_most L x s = both (L.occ s) (leb (L.key s) x)

-- the smallest key of the first n slots, the largest word where none is occupied
unfoldable pub least_to : Leaf → ℕ → ℕ
least_to L zero = 18446744073709551615
least_to L (suc n) = cond (L.occ n) (min (least_to L n) (L.key n)) (least_to L n)

-- the largest key of the first n slots, 0 where none is occupied
unfoldable pub most_to : Leaf → ℕ → ℕ
most_to L zero = 0
most_to L (suc n) = cond (L.occ n) (max (most_to L n) (L.key n)) (most_to L n)

-- slots s and t break "all keys in a leaf differ": t is occupied, with the fingerprint and the key of s
unfoldable pub shares : Leaf → ℕ → ℕ → Bool
shares L s t = both (L.occ t) (both (eqb (L.fp t) (L.fp s)) (eqb (L.key t) (L.key s)))

unfoldable pub twin_at : Leaf → ℕ → Bool
twin_at L s = both (L.occ s) (any_below (shares L s) s)

unfoldable pub twins : Leaf → Bool
twins L = any_below (twin_at L) L.size

pub record Tells (L : Leaf) (t : Tally) : Type 0 where
  pub entries : t.entries ≡ count L
  pub wrong : t.wrong ≡ count_below (wrong_at L) L.size
  pub least : t.least ≡ least_to L L.size
  pub most : t.most ≡ most_to L L.size
