-- Document 01's rule of settling, and its ordering unit, are ones that the theorems hold for.
use Rattle.std.specs.Prelude.{◌+◌}
use Rattle.std.proofs.Common.{arith, ltb-true, lt-ltb}
use Rattle.steps.specs.Model.{line, rule01}
use Rattle.steps.proofs.Settling.{Lawful, InLines}

pub lawful01 : Lawful rule01
lawful01 = record {
  earlier = λ h i j k l e. lt-ltb h k (omega (arith, ltb-true i k e));
  follows = λ i j k l m. lt-ltb i k (omega arith);
  shifts = λ d i j k e. lt-ltb (d + i) (d + k) (omega (arith, ltb-true i k e));
}

pub lines_in_lines : InLines line
lines_in_lines p q e = e
