use Rattle.std.proofs.Common.{arith}
use Rattle.leaf.specs.Leaf.{leaf_in}
use Rattle.split.specs.Stores.{entries_next}
use Rattle.split.proofs.write.append_moved.Goals as goal

pub loop-i-preserved : goal.loop-i-preserved
loop-i-preserved c =
    let a = c.args in
    let e = rw c.new.ensures at c.entry_at-entry.ensures in
    entries_next a.list.now c.loop-i.list _ a.at a.place c.loop-i.i (leaf_in a.leaf.now) a.moved.now.slots _ _ (omega arith)
    c.loop-i.invariant e.0 e.1 c.append_pair.ensures
