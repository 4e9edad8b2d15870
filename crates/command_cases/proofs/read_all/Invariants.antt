-- `command_cases::read_all` ends: each line that is read moves the place on, and there are no more lines than bytes passed.
use Rattle.std.proofs.Common.{◌+◌, ◌-◌, ◌≤◌, length}
use Rattle.command_cases.proofs.read_all.Given as goal

abbrev pub invariant-loop-command : goal.invariant-loop-command
invariant-loop-command g l = (l.lines ≤ l.at) × (l.at ≤ length l.input + 1)

abbrev pub decreases-loop-command : goal.decreases-loop-command
decreases-loop-command g l = length l.input + 1 - l.at
