-- None of the first t slots shares the key of slot s.
use Rattle.std.proofs.Common.{◌≡◌, false}
use Rattle.words.specs.Below.{any_below}
use Rattle.leaf.specs.Leaf.{leaf_in}
use Rattle.leaf.specs.Tally.{shares}
use Rattle.leaf.proofs.tally.is_twin.Given as goal

abbrev pub invariant-loop-t : goal.invariant-loop-t
invariant-loop-t l = any_below (shares (leaf_in l.leaf) l.fn.s) l.t ≡ false
