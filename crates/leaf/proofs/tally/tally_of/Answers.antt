use Rattle.std.proofs.Common.{arith, rules}
use Rattle.leaf.specs.Leaf.{leaf_in}
use Rattle.leaf.proofs.TallySteps.{tells_none, tells_whole}
use Rattle.leaf.proofs.tally.tally_of.Goals as goal

pub loop-s-init : goal.loop-s-init
loop-s-init c = (tells_none (leaf_in c.args.leaf.now), λ t b o. absurd (omega arith))

pub returns : goal.returns
returns c =
    let w = tells_whole c.args.leaf.now c.loop-s.s c.loop-s.t c.loop-s.invariant.0 (omega arith) in (w.0, w.1, search rules)
