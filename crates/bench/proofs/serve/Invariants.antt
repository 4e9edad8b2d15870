-- `bench::serve` ends: each line that is read moves the place on.
use Rattle.std.proofs.Common.{◌+◌, ◌-◌, ◌≤◌, length}
use Rattle.bench.proofs.serve.Given as goal

abbrev pub invariant-loop-command : goal.invariant-loop-command
invariant-loop-command g l = l.at ≤ length l.input + 1

abbrev pub decreases-loop-command : goal.decreases-loop-command
decreases-loop-command g l = length l.input + 1 - l.at
