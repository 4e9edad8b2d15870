-- The lines of the pairs so far stand in the buffer, each of at most 42 bytes.
use Rattle.std.proofs.Common.{◌*◌, ◌≤◌, length}
use Rattle.perform.specs.Perform.{text_of}
use Rattle.perform.specs.Printing.{Stored, rows_to}
use Rattle.perform.proofs.answer.pair_lines.Given as goal

abbrev pub invariant-loop-key : goal.invariant-loop-key
invariant-loop-key l = record {
  stored : Stored l.fn.buf 0 (text_of (rows_to (length l.yielded) l.keys l.values)) l.buf l.end;
  short : l.end ≤ 42 * length l.yielded;
}
