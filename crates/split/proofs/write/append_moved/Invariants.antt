use Rattle.std.proofs.Common.{◌≡◌, take}
use Rattle.leaf.specs.Leaf.{leaf_in}
use Rattle.steps.specs.Stores.{stores_from}
use Rattle.lists.specs.FullLists.{entry_words}
use Rattle.emit.specs.Appended.{appended}
use Rattle.split.proofs.write.append_moved.Given as goal

abbrev pub invariant-loop-i : goal.invariant-loop-i
invariant-loop-i l =
    l.list ≡ appended l.initial.list l.at (stores_from l.place (entry_words (leaf_in l.leaf) (take l.i l.fn.moved.slots)))
