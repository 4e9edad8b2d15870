-- `n` with the bytes from the index on is the field's number.
use Rattle.std.proofs.Common.{◌≡◌, drop, Some}
use Rattle.number.specs.Reading.{pushed_all, spelled_by}
use Rattle.number.proofs.spelled_by.Given as goal

abbrev pub invariant-loop-byte : goal.invariant-loop-byte
invariant-loop-byte l = pushed_all (Some l.n) (drop l.byte-index l.rest) ≡ spelled_by l.fn.field
