use Rattle.std.proofs.Common.{arith, rules, sym, length, lt-ltb, le-ltb}
use Rattle.words.specs.BelowLaws.{any_make, any_next}
use Rattle.machine.specs.Lost.{is_above}
use Rattle.machine.proofs.Tables.{zeros}
use Rattle.machine.proofs.refusals.exceeds_made.Goals as goal

pub tally-requires : goal.tally-requires
tally-requires c = (c.requires.0, zeros 1024)

pub returns-then-count_at-arrived : goal.returns-then-count_at-arrived
returns-then-count_at-arrived c =
    let same = c.tally.ensures c.loop-l.l (search rules) in
    sym (any_make (is_above c.args.list.now c.args.n c.args.arrivals.now) (length c.args.arrivals.now) c.loop-l.l (omega arith)
    (lt-ltb _ _ (omega arith)))

pub loop-l-preserved : goal.loop-l-preserved
loop-l-preserved c =
    let same = c.tally.ensures c.loop-l.l (search rules) in
    any_next (is_above c.args.list.now c.args.n c.args.arrivals.now) c.loop-l.l c.loop-l.invariant (le-ltb _ _ (omega arith))
