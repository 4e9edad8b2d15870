use Rattle.std.proofs.Common.{◌≡◌}
use Rattle.std.proofs.Math.Seq.{paste}
use Rattle.index.proofs.recovery.copy_notes.Given as goal

abbrev pub invariant-loop-i : goal.invariant-loop-i
invariant-loop-i l =
    (l.smallest ≡ paste l.fn.smallest 0 l.leasts l.i) × (l.blocks ≡ paste l.fn.blocks 0 l.numbers l.i)
