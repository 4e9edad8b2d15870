use Rattle.leaf.proofs.SearchSteps.{in_key}
use Rattle.leaf.proofs.search.key_at.Goals as goal

pub returns : goal.returns
returns c = rw (c.word_at.ensures, c.bytes.ensures.0, c.key_place.ensures) (in_key c.args.leaf.now c.args.s)
