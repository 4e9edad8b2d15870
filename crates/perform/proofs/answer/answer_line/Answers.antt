use Rattle.std.proofs.Common.{arith}
use Rattle.perform.specs.Printing.{line_written}
use Rattle.perform.proofs.answer.answer_line.Goals as goal

pub returns-clause-written : goal.returns-clause-written
returns-clause-written c = (line_written c.args.buf.now c.args.numbers.now _ _ c.write_line.ensures.stored (omega arith)).0
