use Rattle.std.proofs.Common.{◌≡◌, take}
use Rattle.header.specs.Header.{bits_of}
use Rattle.leaf.specs.Leaf.{leaf_in}
use Rattle.lists.specs.FullLists.{marked_from}
use Rattle.split.proofs.heads.upper_head.Given as goal

abbrev pub invariant-loop-i : goal.invariant-loop-i
invariant-loop-i l = bits_of l.head ≡ marked_from (leaf_in l.leaf) 0 7 (take l.i l.fn.moved.slots)
