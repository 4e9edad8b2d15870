-- Words stored in a row.
use Rattle.std.specs.Prelude.{ℕ, suc, List, [], ◌∷◌, ◌≡◌, refl, length}
use Rattle.std.proofs.Common.{ap}
use Rattle.steps.specs.Stores.{stores_from}

pub stores_length : (q : ℕ) (vs : List ℕ) → length (stores_from q vs) ≡ length vs
stores_length q [] = refl
stores_length q (v ∷ vs) = ap suc (stores_length (suc q) vs)
