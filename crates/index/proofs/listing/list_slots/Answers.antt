use Rattle.std.proofs.Common.{◌≡◌, length, arith}
use Rattle.leaf.specs.Leaf.{leaf_in}
use Rattle.index.proofs.ListingLaws.{slots_end, slots_full, slots_next}
use Rattle.index.proofs.listing.list_slots.Goals as goal

pub loop-i-preserved : goal.loop-i-preserved
loop-i-preserved c =
    let i = c.loop-i.i in (
      omega arith,
      slots_next (leaf_in c.args.leaf.now) (length c.args.keys.now) i i c.args.order.now c.loop-i.keys c.loop-i.values _
          c.loop-i.invariant.1 _ _ _ (omega arith) (omega arith) c.new-s.ensures c.key_at.ensures c.value_at.ensures,
    )

pub returns-then-i-keys-clause-filled : goal.returns-then-i-keys-clause-filled
returns-then-i-keys-clause-filled c =
    let i = c.loop-i.i in
    slots_full (leaf_in c.args.leaf.now) (length c.args.keys.now) i i c.args.order.now c.loop-i.keys c.loop-i.values _
    c.loop-i.invariant.1 (omega arith)

pub returns-clause-filled : goal.returns-clause-filled
returns-clause-filled c =
    let i = c.loop-i.i in
    let last : length c.args.order.now ≡ i = omega arith in
    rw last (slots_end (leaf_in c.args.leaf.now) (length c.args.keys.now) i i c.args.order.now c.loop-i.keys c.loop-i.values _
    c.loop-i.invariant.1 (omega arith))
