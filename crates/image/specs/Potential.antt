-- Sums over a chain of a number that depends on how many entries a leaf has: the entries, and the potential that
-- demand 3 rests on.
use Rattle.std.specs.Prelude.{ℕ, ◌+◌, ◌-◌, ◌*◌, List, [], ◌∷◌}
use Rattle.leaf.specs.Leaf.{Leaf}
use Rattle.leaf.specs.Search.{count}

unfoldable pub sum_of : (ℕ → ℕ) → (ℕ → Leaf) → List ℕ → ℕ
sum_of f I [] = 0
sum_of f I (b ∷ bs) = f (count (I b)) + sum_of f I bs

abbrev pub entries : (ℕ → Leaf) → List ℕ → ℕ
entries = sum_of (λ n. n)

-- `weight` for each entry of a leaf above `half`, the number that a split moves: 6 and 7 for leaves of 14 slots
abbrev pub excess : ℕ → ℕ → ℕ → ℕ
excess weight half n = weight * (n - half)

abbrev pub phi : (ℕ → Leaf) → List ℕ → ℕ
phi = sum_of (excess 6 7)
