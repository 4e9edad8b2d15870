-- Where a key belongs in a chain, as functions: the calls' contracts name them. To be believed.
use Rattle.std.specs.Prelude.{Bool, cond, not, List, [], ◌∷◌, ℕ, eqb}
use Rattle.words.specs.Below.{count_below}
use Rattle.leaf.specs.Leaf.{Leaf}
use Rattle.leaf.specs.Tally.{at_most}

-- "whose smallest key is at most that key": some key of the leaf is
abbrev pub reaches_to : Leaf → ℕ → Bool
reaches_to L k = not (eqb (count_below (at_most L k) L.size) 0)

-- "The target leaf of a key is the last chained leaf whose smallest key is at most that key; if there is none, block 0": t where there
-- is none
unfoldable pub target_from : (ℕ → Leaf) → ℕ → ℕ → List ℕ → ℕ
target_from I k t [] = t
target_from I k t (b ∷ bs) = target_from I k (cond (reaches_to (I b) k) b t) bs

-- the leaf before the target leaf: prev is the leaf before the list, and p the answer where there is none
unfoldable pub before_from : (ℕ → Leaf) → ℕ → ℕ → ℕ → List ℕ → ℕ
before_from I k p prev [] = p
before_from I k p prev (b ∷ bs) = before_from I k (cond (reaches_to (I b) k) prev p) b bs
