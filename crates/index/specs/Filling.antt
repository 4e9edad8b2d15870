-- Two buffers filled with the keys and values of entries, one by one, while there is room: what the loops of listing and
-- recovery compute.
use Rattle.std.specs.Prelude.{ltb, set}
use Rattle.std.proofs.Math.Bool.{cond}
use mathlib.Core.List.{List, [], ◌∷◌}
use Prim.Native.Nat.{ℕ, ◌+◌}
use Rattle.image.specs.Map.{Entry}

-- so many elements are used
pub record Buffers : Type 0 where
  pub used : ℕ
  pub keys : List ℕ
  pub values : List ℕ

abbrev pub buffers : ℕ → List ℕ → List ℕ → Buffers
buffers n keys values = record { used = n; keys = keys; values = values }

abbrev pub entered : Entry → Buffers → Buffers
entered e b = buffers (b.used + 1) (set b.keys b.used e.key) (set b.values b.used e.val)

unfoldable pub fill : ℕ → List Entry → Buffers → Buffers
fill room [] b = b
fill room (e ∷ es) b = cond (ltb b.used room) (fill room es (entered e b)) b
