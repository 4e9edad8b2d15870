use Rattle.std.proofs.Common.{arith, ◌∙◌}
use Rattle.leaf.proofs.SearchSteps.{in_occ}
use Rattle.leaf.proofs.page.Page.occupied.Goals as goal

pub returns : goal.returns
returns c = c.occupied.ensures ∙ in_occ _ _ c.head.ensures _ (omega arith)
