use Rattle.std.proofs.Common.{◌≡◌, take}
use Rattle.header.specs.Header.{bits_of, cleared_all}
use Rattle.split.proofs.heads.old_head.Given as goal

abbrev pub invariant-loop-s : goal.invariant-loop-s
invariant-loop-s l = bits_of l.rest ≡ cleared_all (bits_of l.fn.head) (take l.s-index l.fn.moved.slots)
