-- All blocks of the words so far are in the set.
use Rattle.std.proofs.Common.{◌≡◌, not, false, ◌<◌, ◌*◌, ℕ}
use Rattle.survey.specs.Marks.{is_in}
use Rattle.survey.proofs.marks.Marks.first_out.Given as goal

abbrev pub invariant-loop-i : goal.invariant-loop-i
invariant-loop-i l = (t : ℕ) → t < 64 * l.i → not (is_in l.fn.self.words t) ≡ false
