-- What soundness asks of a leaf by itself.
use Rattle.std.specs.Prelude.{◌≡◌, false, ◌⊎◌, ℕ, ◌<◌}
use Rattle.leaf.specs.Leaf.{Leaf, Right}
use Rattle.image.specs.Chain.{Filled}

pub record Good (I : ℕ → Leaf) (N b : ℕ) : Type 0 where
  pub unlocked : (I b).lock ≡ false
  pub near : (I b).next < N
  pub right : Right (I b)
  pub filled : (b ≡ 0) ⊎ Filled (I b)
