-- Words stored in a row.
use Rattle.std.specs.Prelude.{ℕ, suc, List, [], ◌∷◌}
use Rattle.steps.specs.Model.{Step, store}

-- the words vs stored from the place q on
abbrev pub stores_from : ℕ → List ℕ → List Step
stores_from q [] = []
stores_from q (v ∷ vs) = store q v ∷ stores_from (suc q) vs
