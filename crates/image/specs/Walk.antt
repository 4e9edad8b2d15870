-- A walk along the siblings from block 0: what has been met is the chain so far of every chain that makes the image sound.
use Rattle.std.specs.Prelude.{List, ℕ}
use Rattle.leaf.specs.Leaf.{Leaf}
use Rattle.image.specs.Chain.{All, Links, Distinct, Rising}
use Rattle.image.specs.ChainLaws.{Good}

-- the walk has met xs, and m comes: at its start nothing and block 0
pub record Walked (I : ℕ → Leaf) (N : ℕ) (xs : List ℕ) (m : ℕ) : Type 0 where
  pub links : Links I 0 xs m
  pub distinct : Distinct xs
  pub leaves : All (Good I N) xs
  pub rising : Rising I xs
