-- n of the first s slots are occupied.
use Rattle.std.proofs.Common.{◌≡◌, ◌≤◌}
use Rattle.words.specs.Below.{count_below}
use Rattle.header.specs.Header.{bits_of}
use Rattle.leaf.specs.Leaf.{occ_in}
use Rattle.leaf.proofs.search.entries.Given as goal

abbrev pub invariant-loop-s : goal.invariant-loop-s
invariant-loop-s l = (l.n ≤ l.s) × (l.n ≡ count_below (occ_in (bits_of l.head)) l.s)
