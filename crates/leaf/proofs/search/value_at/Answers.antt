use Rattle.leaf.proofs.SearchSteps.{in_val}
use Rattle.leaf.proofs.search.value_at.Goals as goal

pub returns : goal.returns
returns c = rw (c.word_at.ensures, c.bytes.ensures.0, c.value_place.ensures) (in_val c.args.leaf.now c.args.s)
