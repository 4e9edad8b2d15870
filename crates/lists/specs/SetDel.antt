-- Which leaf stands before another, for the del that takes a leaf out of the chain.
use Prim.Native.Nat.{ℕ}
use Rattle.std.specs.Prelude.{◌≡◌}
use mathlib.Core.List.{List, [], ◌∷◌, ◌++◌}

-- the leaf before is the last of those before: block 0 has none, and is not asked for it
pub record Behind (xs : List ℕ) (p : ℕ) : Type 0 where
  pub init : List ℕ
  pub is : xs ≡ init ++ (p ∷ [])
