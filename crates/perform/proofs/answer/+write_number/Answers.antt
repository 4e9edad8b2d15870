-- `perform::answer::write_number` meets its contract: the last digit of n stands behind those of n / 10. The measure is n.
use Rattle.std.proofs.Common.{ℕ, ◌+◌, ◌%◌, ◌<◌, ◌≤◌, List, arith}
use Rattle.std.proofs.Math.Path.{ap₂, ◌∙◌}
use Rattle.std.proofs.Math.ListN.{set}
use Rattle.perform.specs.Printing.{length_small, length_more, sets_small, sets_more}
use Rattle.perform.proofs.answer.+write_number.Goals as goal

pub bounds-buf-at : goal.bounds-buf-at
bounds-buf-at t c = omega (arith, length_small c.args.n c.if-n-lt10.true)

pub returns-then-n-lt10 : goal.returns-then-n-lt10
returns-then-n-lt10 t c =
    let a = c.args in
    let lt : a.n < 10 = omega arith in (omega (arith, length_small a.n lt), sets_small a.buf.now a.at a.n lt)

pub write_number-last-requires : goal.write_number-last-requires
write_number-last-requires t c =
    let n = c.args.n in
    let ge : 10 ≤ n = omega arith in (omega arith, omega (arith, length_more n ge))

pub bounds-buf-last : goal.bounds-buf-last
bounds-buf-last t c =
    let w = c.write_number-last in
    omega (arith, length_more c.args.n c.if-n-lt10.false, w.auto.buf, w.ensures.0)

pub overflow_add-result-2 : goal.overflow_add-result-2
overflow_add-result-2 t c = omega (arith, length_more c.args.n c.if-n-lt10.false, c.write_number-last.ensures.0)

pub returns : goal.returns
returns t c =
    let w = c.write_number-last in
    let a = c.args in
    let ge : 10 ≤ a.n = c.if-n-lt10.false in (
      omega (arith, length_more a.n ge, w.ensures.0),
      ap₂ (λ (l : List ℕ) (i : ℕ). set l i (48 + a.n % 10)) w.ensures.1 w.ensures.0 ∙ sets_more a.buf.now a.at a.n ge,
    )
