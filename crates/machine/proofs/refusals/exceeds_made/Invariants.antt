-- Of no line passed more stores arrived than were made.
use Rattle.std.proofs.Common.{◌≡◌, false}
use Rattle.words.specs.Below.{any_below}
use Rattle.machine.specs.Lost.{is_above}
use Rattle.machine.proofs.refusals.exceeds_made.Given as goal

abbrev pub invariant-loop-l : goal.invariant-loop-l
invariant-loop-l l = any_below (is_above l.list l.n l.arrivals) l.l ≡ false
