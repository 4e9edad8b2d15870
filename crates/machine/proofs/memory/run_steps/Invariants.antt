-- The image is that after the steps passed.
use Rattle.std.proofs.Common.{◌≡◌}
use Rattle.words.specs.Words.{store_word}
use Rattle.steps.specs.Model.{run}
use Rattle.steps.specs.Encoding.{step_at}
use Rattle.machine.proofs.memory.run_steps.Given as goal

abbrev pub invariant-loop-i : goal.invariant-loop-i
invariant-loop-i l = l.image ≡ run store_word (step_at l.list) l.fn.image l.i
