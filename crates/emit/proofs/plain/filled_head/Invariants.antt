use Rattle.header.specs.Header.{bits_of}
use Rattle.leaf.specs.Leaf.{leaf_in}
use Rattle.emit.specs.CopyLaws.{FilledTo}
use Rattle.emit.proofs.plain.filled_head.Given as goal

abbrev pub invariant-loop-n : goal.invariant-loop-n
invariant-loop-n l = FilledTo (bits_of l.head) (leaf_in l.leaf) l.fn.s l.key l.n (bits_of l.filled) l.from
