-- The table has the stores of the steps passed.
use Rattle.steps.specs.Encoding.{step_at}
use Rattle.machine.specs.Tables.{Tally}
use Rattle.machine.proofs.counts.tally.Given as goal

abbrev pub invariant-loop-i : goal.invariant-loop-i
invariant-loop-i l = Tally (step_at l.list) l.i l.made
