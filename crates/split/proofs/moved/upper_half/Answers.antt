-- `try_into` gives the slice's own elements, which are the upper half of the order.
use Rattle.std.proofs.Common.{◌∙◌}
use Rattle.split.specs.Full.{upper_are}
use Rattle.split.proofs.moved.upper_half.Goals as goal

pub invariant_of-result : goal.invariant_of-result
invariant_of-result c =
    let whole = rw c.unwrap.ensures at c.try_into.ensures.1 in
    record { below = rw whole.same (upper_are c.args.leaf.now c.requires.0 c.requires.1 _ _ c.order_from.ensures).1 }

pub returns : goal.returns
returns c =
    let whole = rw c.unwrap.ensures at c.try_into.ensures.1 in
    whole.same ∙ (upper_are c.args.leaf.now c.requires.0 c.requires.1 _ _ c.order_from.ensures).0
