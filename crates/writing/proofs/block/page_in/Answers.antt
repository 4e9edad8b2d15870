use Rattle.std.proofs.Common.{refl}
use Rattle.writing.proofs.BlockLaws.{part_head}
use Rattle.writing.proofs.block.page_in.Goals as goal

pub returns-clause-leaf : goal.returns-clause-leaf
returns-clause-leaf c = rw c.from.ensures at c.page_of.ensures.leaf

pub returns-clause-head : goal.returns-clause-head
returns-clause-head c = rw (c.page_of.ensures.part, c.from.ensures) (part_head c.args.image.now c.args.block _ _ refl refl)
