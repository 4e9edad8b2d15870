-- The fence is the last of the steps passed.
use Rattle.std.proofs.Common.{◌≡◌, ◌≤◌}
use Rattle.steps.specs.Encoding.{step_at}
use Rattle.steps.specs.LastFence.{last_fence}
use Rattle.machine.proofs.counts.last_fence.Given as goal

abbrev pub invariant-loop-i : goal.invariant-loop-i
invariant-loop-i l = (l.last ≡ last_fence (step_at l.list) l.i) × (l.last ≤ l.i)
