-- The target leaf of a key.
use Rattle.std.specs.Prelude.{◌≡◌, List, ◌⊎◌, ℕ, ◌≤◌, ◌<◌}
use Rattle.leaf.specs.Leaf.{Leaf, In}
use Rattle.image.specs.Chain.{Has}

-- the leaf has a key that is at most k: its smallest one is
abbrev pub Reaches : Leaf → ℕ → Type 0
Reaches L k = (j : ℕ) × (u : ℕ) × In L j u × (j ≤ k)

-- "The target leaf of a key is the last chained leaf whose smallest key is at most that key; if there is none,
-- block 0": here the block b, with the blocks ys behind it in the chain
pub record Target (I : ℕ → Leaf) (b : ℕ) (ys : List ℕ) (k : ℕ) : Type 0 where
  pub low : (b ≡ 0) ⊎ Reaches (I b) k
  pub high : (j u : ℕ) → Has I ys j u → k < j
