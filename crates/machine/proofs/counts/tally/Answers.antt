use Rattle.std.proofs.Common.{arith}
use Rattle.steps.specs.Encoding.{step_at}
use Rattle.machine.proofs.Tables.{tally_none, tally_most, tally_next}
use Rattle.machine.proofs.counts.tally.Goals as goal

pub loop-i-init : goal.loop-i-init
loop-i-init c = tally_none (step_at c.args.list.now) c.args.made.now c.requires.1

pub count_store-requires : goal.count_store-requires
count_store-requires c l = omega (arith, tally_most (step_at c.args.list.now) c.loop-i.i c.loop-i.made c.loop-i.invariant l)

pub loop-i-preserved : goal.loop-i-preserved
loop-i-preserved c =
    rw c.count_store.ensures (tally_next (step_at c.args.list.now) _ _ _ c.step_at.ensures c.loop-i.invariant)
