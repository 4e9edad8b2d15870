-- What find answers from the leaf where it looks.
use Rattle.std.specs.Prelude.{ℕ, Option, Some, None, Result, Ok, Err}
use Rattle.leaf.specs.Leaf.{Leaf}
use Rattle.steps.specs.declared.refusal.Refusal.{Refusal}
use Rattle.steps.specs.declared.refusal.Refusal.TheVariants.{Absent}

abbrev pub found_at : Leaf → Option ℕ → Result ℕ Refusal
found_at L (Some s) = Ok (L.val s)
found_at L None = Err Absent
