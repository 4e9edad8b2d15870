use Rattle.std.proofs.Common.{◌≡◌, replicate}
use Rattle.steps.specs.Stores.{stores_from}
use Rattle.emit.specs.Appended.{appended}
use Rattle.split.proofs.write.append_zeros.Given as goal

abbrev pub invariant-loop-i : goal.invariant-loop-i
invariant-loop-i l = l.list ≡ appended l.initial.list l.at (stores_from l.place (replicate l.i 0))
