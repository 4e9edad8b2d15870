-- The slots below s, whose hits are left, have what twins there are.
use Rattle.leaf.specs.Leaf.{leaf_in}
use Rattle.leaf.proofs.TallySteps.{Left}
use Rattle.leaf.proofs.tally.has_twins.Given as goal

abbrev pub invariant-loop-s : goal.invariant-loop-s
invariant-loop-s l = Left (leaf_in l.leaf) l.s l.left
