-- The search from slot n on finds what the whole search finds.
use Rattle.std.proofs.Common.{◌≡◌, ◌-◌}
use Rattle.leaf.specs.Leaf.{leaf_in}
use Rattle.leaf.specs.Search.{lowest, holds_key, slot_of}
use Rattle.leaf.proofs.search.find_slot.Given as goal

abbrev pub invariant-loop-n : goal.invariant-loop-n
invariant-loop-n l = lowest (holds_key (leaf_in l.leaf) l.key) (14 - l.n) l.n ≡ slot_of (leaf_in l.leaf) l.key
