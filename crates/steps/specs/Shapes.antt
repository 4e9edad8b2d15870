-- Shapes of lists that are sections: stores to one line with its write-back and a fence, and before them stores to other
-- lines with theirs.
use Rattle.std.specs.Prelude.{ℕ, List, [], ◌∷◌, ◌++◌}
use Rattle.steps.specs.Model.{Step, store, write_back, fence, line}

-- the switch, its line's write-back, a fence
abbrev pub one_store : ℕ → ℕ → List Step
one_store p v = store p v ∷ write_back (line p) ∷ fence ∷ []

-- other stores to its line before it
abbrev pub one_line : List Step → ℕ → ℕ → List Step
one_line t p v = t ++ one_store p v

-- and before them the stores w, the write-backs b, a fence
abbrev pub two_parts : List Step → List Step → List Step → ℕ → ℕ → List Step
two_parts w b t p v = w ++ (b ++ fence ∷ one_line t p v)
