-- A number takes at most 20 of the 21 bytes.
use Rattle.std.proofs.Common.{[], ◌∷◌, refl, arith}
use Rattle.number.specs.Decimal.{decimal}
use Rattle.perform.specs.Printing.{stored_behind, decimal_short}
use Rattle.perform.proofs.answer.write_field.Goals as goal

pub write_number-end-requires : goal.write_number-end-requires
write_number-end-requires c = omega (arith, decimal_short c.args.n (omega arith))

pub bounds-buf-end : goal.bounds-buf-end
bounds-buf-end c =
    omega (arith, decimal_short c.args.n (omega arith), c.write_number-end.ensures.0, c.write_number-end.auto.buf)

pub overflow_add-result : goal.overflow_add-result
overflow_add-result c = omega (arith, decimal_short c.args.n (omega arith), c.write_number-end.ensures.0)

pub returns-clause-stored : goal.returns-clause-stored
returns-clause-stored c =
    stored_behind c.args.buf.now c.args.at (decimal c.args.n) _ _ (9 ∷ []) _ _ c.write_number-end.ensures (refl, refl)

pub returns-clause-short : goal.returns-clause-short
returns-clause-short c = omega (arith, decimal_short c.args.n (omega arith), c.write_number-end.ensures.0)
