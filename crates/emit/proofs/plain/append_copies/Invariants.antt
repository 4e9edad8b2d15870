use Rattle.header.specs.Header.{bits_of}
use Rattle.leaf.specs.Leaf.{leaf_in}
use Rattle.emit.specs.CopyLaws.{CopiedTo}
use Rattle.emit.proofs.plain.append_copies.Given as goal

abbrev pub invariant-loop-n : goal.invariant-loop-n
invariant-loop-n l = CopiedTo (bits_of l.head) (leaf_in l.leaf) l.block l.fn.s l.at l.initial.list l.n l.list l.from
