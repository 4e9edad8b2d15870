use Rattle.std.proofs.Common.{◌∙◌, List, length, ap}
use Rattle.image.specs.Map.{Entry}
use Rattle.order.specs.Insertion.{slots_below}
use Rattle.index.specs.Filling.{buffers, fill}
use Rattle.index.proofs.ListingLaws.{order_lists}
use Rattle.index.proofs.listing.list_leaf.Goals as goal

pub list_slots-requires : goal.list_slots-requires
list_slots-requires c =
    (c.requires.1, λ i. rw c.order_from-count.ensures.first (slots_below c.args.leaf.now c.requires.0 c.args.from i))

pub returns-clause-filled : goal.returns-clause-filled
returns-clause-filled c =
    c.list_slots.ensures.filled
    ∙ ap (λ (es : List Entry). fill (length c.args.keys.now) es (buffers 0 c.args.keys.now c.args.values.now))
    (order_lists c.args.leaf.now c.args.from _ c.order_from-count.ensures.first)
