use Rattle.std.proofs.Common.{refl, arith}
use Rattle.perform.specs.Printing.{fields, field_stored, fields_some, line_stored}
use Rattle.perform.proofs.answer.write_line.Goals as goal

pub loop-n-init : goal.loop-n-init
unfolding fields
loop-n-init c = record { stored = (omega arith, refl); short = omega arith }

pub loop-n-preserved : goal.loop-n-preserved
loop-n-preserved c = record {
  stored = field_stored _ _ _ c.loop-n.n-index _ _ _ _ (omega arith) c.loop-n.invariant.stored c.write_field-end.ensures.stored;
  short = omega arith;
}

pub overflow_sub-buf : goal.overflow_sub-buf
overflow_sub-buf c =
    fields_some c.args.buf.now c.args.at c.args.numbers.now c.loop-n.n-index _ _ (omega arith) (omega arith) c.loop-n.invariant.stored

pub returns-clause-stored : goal.returns-clause-stored
returns-clause-stored c =
    line_stored c.args.buf.now c.args.at c.args.numbers.now c.loop-n.n-index _ _ (omega arith) (omega arith) c.loop-n.invariant.stored
