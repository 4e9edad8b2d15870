-- There was room so far, and what is left of the order to write gives what the whole of it gives.
use Rattle.std.proofs.Common.{◌≡◌, ◌≤◌, length, drop}
use Rattle.leaf.specs.Leaf.{leaf_in}
use Rattle.image.specs.Entries.{entries_at}
use Rattle.index.specs.Filling.{buffers, fill}
use Rattle.index.proofs.listing.list_slots.Given as goal

abbrev pub invariant-loop-i : goal.invariant-loop-i
invariant-loop-i l =
    (l.i ≤ length l.fn.keys)
    × (fill (length l.fn.keys) (entries_at (leaf_in l.leaf) (drop l.i l.order)) (buffers l.i l.keys l.values)
    ≡ fill (length l.fn.keys) (entries_at (leaf_in l.leaf) l.order) (buffers 0 l.fn.keys l.fn.values))
