-- The tally tells of the first s slots, whose fingerprints bear the number.
use Rattle.leaf.specs.Leaf.{leaf_in}
use Rattle.leaf.specs.TallySteps.{TellsTo, Stamped}
use Rattle.leaf.proofs.tally.tally_of.Given as goal

abbrev pub invariant-loop-s : goal.invariant-loop-s
invariant-loop-s l = TellsTo (leaf_in l.leaf) l.s l.t × Stamped (leaf_in l.leaf) l.number l.s l.stamps
