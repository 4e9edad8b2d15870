-- The image is that after a cut behind the steps passed, and the table has their stores.
use Rattle.std.proofs.Common.{◌≡◌}
use Rattle.words.specs.Words.{store_word}
use Rattle.steps.specs.Model.{line, cut}
use Rattle.steps.specs.Encoding.{step_at}
use Rattle.machine.specs.Taking.{arrived}
use Rattle.machine.specs.Tables.{Tally}
use Rattle.machine.proofs.memory.cut_steps.Given as goal

abbrev pub invariant-loop-i : goal.invariant-loop-i
invariant-loop-i l = record {
  image : l.image ≡ cut store_word line (step_at l.list) (arrived l.arrivals) l.fn.image l.i;
  counted : Tally (step_at l.list) l.i l.seen;
}
