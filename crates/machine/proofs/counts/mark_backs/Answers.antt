use Rattle.steps.specs.Encoding.{step_at}
use Rattle.machine.proofs.Tables.{backs_none, backs_next}
use Rattle.machine.proofs.counts.mark_backs.Goals as goal

pub loop-i-init : goal.loop-i-init
loop-i-init c = backs_none (step_at c.args.list.now) c.args.backs.now c.requires.1

pub loop-i-preserved : goal.loop-i-preserved
loop-i-preserved c =
    rw c.mark_back.ensures (backs_next (step_at c.args.list.now) _ _ _ c.step_at.ensures c.loop-i.invariant)
