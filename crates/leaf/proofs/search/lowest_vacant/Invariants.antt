-- The search from slot n on finds what the whole search finds.
use Rattle.std.proofs.Common.{◌≡◌, ◌-◌, not}
use Rattle.header.specs.Header.{bits_of}
use Rattle.leaf.specs.Leaf.{occ_in}
use Rattle.leaf.specs.Search.{lowest, lowest_vacant}
use Rattle.leaf.proofs.search.lowest_vacant.Given as goal

abbrev pub invariant-loop-n : goal.invariant-loop-n
invariant-loop-n l = lowest (λ t. not (occ_in (bits_of l.head) t)) (14 - l.n) l.n ≡ lowest_vacant (occ_in (bits_of l.head)) 14
