use Rattle.std.proofs.Common.{ap}
use Rattle.header.specs.Header.{fingerprint_of}
use Rattle.leaf.proofs.SearchSteps.{in_key}
use Rattle.leaf.proofs.tally.own_print.Goals as goal

pub returns : goal.returns
returns c = rw (c.fingerprint_at.ensures, c.bytes.ensures.0, c.key_place.ensures) (ap fingerprint_of (in_key c.args.leaf.now c.args.s))
