-- The table has the stores of the steps passed, and none of them was a settled store that did not arrive.
use Rattle.std.proofs.Common.{◌≡◌, ◌≤◌, false, length}
use Rattle.words.specs.Below.{any_below}
use Rattle.steps.specs.Encoding.{step_at}
use Rattle.machine.specs.Tables.{Tally}
use Rattle.machine.specs.Lost.{lost_at}
use Rattle.machine.proofs.refusals.misses_settled.Given as goal

abbrev pub invariant-loop-i : goal.invariant-loop-i
invariant-loop-i l = record {
  counted : Tally (step_at l.list) l.i l.seen;
  wide : 1024 ≤ length l.seen;
  none : any_below (lost_at l.list l.last l.arrivals) l.i ≡ false;
}
