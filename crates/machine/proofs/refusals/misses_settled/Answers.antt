use Rattle.std.proofs.Common.{replicate, ◌≡◌, arith, rules, refl, sym, ◌∙◌}
use Rattle.words.specs.Below.{any_below}
use Rattle.words.specs.BelowLaws.{any_make, any_next}
use Rattle.steps.specs.Encoding.{step_at}
use Rattle.machine.specs.Lost.{lost, lost_at}
use Rattle.machine.proofs.Tables.{zeros, tally_none, tally_most, tally_next}
use Rattle.machine.proofs.Lost.{lost_by_lem}
use Rattle.machine.proofs.refusals.misses_settled.Goals as goal

pub mark_backs-requires : goal.mark_backs-requires
mark_backs-requires c = (omega (arith, c.requires.long), zeros 1024)

pub loop-i-init : goal.loop-i-init
unfolding any_below
loop-i-init c = record { counted = tally_none (step_at c.args.list.now) (replicate 1024 0) (zeros 1024); wide = search rules; none = refl }

pub returns-then-is_lost : goal.returns-then-is_lost
unfolding lost
returns-then-is_lost c =
    let same = lost_by_lem c.args.list.now c.loop-i.seen c.loop-i.i c.step_at-step.result c.step_at-step.ensures
    (λ p v. c.requires.lined c.loop-i.i p v (omega arith)) c.loop-i.invariant.counted c.loop-i.invariant.wide c.args.arrivals.now
    c.last_fence-last.result c.mark_backs.new.backs c.mark_backs.ensures (search rules) in
    sym (rw c.last_fence-last.ensures.is at (any_make (lost_at c.args.list.now c.last_fence-last.result c.args.arrivals.now) c.last_fence-last.result
    c.loop-i.i (omega arith) (sym same ∙ sym c.is_lost.ensures ∙ c.if-is_lost.true)))

pub count_store-requires : goal.count_store-requires
count_store-requires c l =
    let m = tally_most (step_at c.args.list.now) c.loop-i.i c.loop-i.seen c.loop-i.invariant.counted l in
    omega (arith, c.requires.few)

pub loop-i-preserved : goal.loop-i-preserved
loop-i-preserved c =
    let same = lost_by_lem c.args.list.now c.loop-i.seen c.loop-i.i c.step_at-step.result c.step_at-step.ensures
    (λ p v. c.requires.lined c.loop-i.i p v (omega arith)) c.loop-i.invariant.counted c.loop-i.invariant.wide c.args.arrivals.now
    c.last_fence-last.result c.mark_backs.new.backs c.mark_backs.ensures (search rules) in
    record {
      counted = rw c.count_store.ensures
          (tally_next (step_at c.args.list.now) c.loop-i.i c.loop-i.seen _ c.step_at-step.ensures c.loop-i.invariant.counted);
      wide = search rules;
      none = any_next (lost_at c.args.list.now c.last_fence-last.result c.args.arrivals.now) c.loop-i.i
          c.loop-i.invariant.none (sym same ∙ sym c.is_lost.ensures ∙ c.if-is_lost.false);
    }

pub returns : goal.returns
unfolding lost
returns c =
    let q : c.loop-i.i ≡ c.last_fence-last.result = omega arith in
    sym (rw (q, c.last_fence-last.ensures.is) at c.loop-i.invariant.none)
