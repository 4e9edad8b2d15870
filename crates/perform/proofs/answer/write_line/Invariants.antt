-- The fields of the numbers so far stand in the buffer, each of at most 21 bytes.
use Rattle.std.proofs.Common.{◌+◌, ◌*◌, ◌≤◌, take}
use Rattle.perform.specs.Printing.{Stored, fields}
use Rattle.perform.proofs.answer.write_line.Given as goal

abbrev pub invariant-loop-n : goal.invariant-loop-n
invariant-loop-n l = record {
  stored : Stored l.fn.buf l.fn.at (fields (take l.n-index l.numbers)) l.buf l.end;
  short : l.end ≤ l.fn.at + 21 * l.n-index;
}
