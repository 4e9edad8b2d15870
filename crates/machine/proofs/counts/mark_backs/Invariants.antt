-- The table has the write-backs of the steps passed.
use Rattle.steps.specs.Encoding.{step_at}
use Rattle.machine.specs.Tables.{Backs}
use Rattle.machine.proofs.counts.mark_backs.Given as goal

abbrev pub invariant-loop-i : goal.invariant-loop-i
invariant-loop-i l = Backs (step_at l.list) l.i l.backs
