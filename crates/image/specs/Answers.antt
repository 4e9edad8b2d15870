-- The value in a slot that a search found.
use Rattle.std.specs.Prelude.{ℕ, Option, Some, None}
use Rattle.leaf.specs.Leaf.{Leaf}

abbrev pub value_at : Leaf → Option ℕ → Option ℕ
value_at L (Some s) = Some (L.val s)
value_at L None = None
