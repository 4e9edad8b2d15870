use Rattle.std.proofs.Common.{refl}
use Rattle.leaf.proofs.LeafLaws.{part_leaf}
use Rattle.leaf.proofs.page.page_of.Goals as goal

pub returns-clause-leaf : goal.returns-clause-leaf
returns-clause-leaf c = rw c.read.ensures.same (part_leaf c.args.image.now c.args.block _ _ refl refl)
