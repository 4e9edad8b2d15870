-- What find answers of a map: proofs/Agreement has that on a sound image the three calls agree with its map.
use Rattle.std.specs.Prelude.{ℕ, Option, Some, None}
use Rattle.index.specs.Reading.{Told, told}

-- what find answers where the map has this value, or none
abbrev pub found_in : Option ℕ → Told
found_in (Some v) = told 0 v
found_in None = told 5 0
