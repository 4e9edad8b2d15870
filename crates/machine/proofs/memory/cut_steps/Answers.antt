use Rattle.std.proofs.Common.{replicate, arith, rules, add-one, ◌∙◌, length}
use Rattle.steps.specs.Encoding.{step_at}
use Rattle.machine.proofs.Fits.{can_be_taken}
use Rattle.machine.proofs.Tables.{zeros, tally_none, tally_most, tally_next}
use Rattle.machine.proofs.Lost.{arrives_by}
use Rattle.machine.proofs.memory.cut_steps.Goals as goal

pub loop-i-init : goal.loop-i-init
loop-i-init c =
    record { image = search rules; counted = tally_none (step_at c.args.list.now) (replicate 1024 0) (zeros 1024) }

pub count_store-requires : goal.count_store-requires
count_store-requires c l =
    let m = tally_most (step_at c.args.list.now) c.loop-i.i c.loop-i.seen c.loop-i.invariant.counted l in
    omega (arith, c.requires.few)

pub loop-i-preserved : goal.loop-i-preserved
loop-i-preserved c =
    let list = c.args.list.now in
    let s = step_at list in
    let i = c.loop-i.i in
    let lined = (can_be_taken (length c.args.image.now) list c.args.n c.requires).lined in
    let same = arrives_by list c.loop-i.seen i c.step_at-step.result c.step_at-step.ensures
    (λ p v. lined i p v (omega arith)) c.loop-i.invariant.counted (search rules) c.args.arrivals.now in
    record {
      image = rw (
        add-one i,
        c.take_step.ensures,
        c.loop-i.invariant.image,
        c.arrives_now.ensures ∙ same,
        c.step_at-step.ensures,
      );
      counted = rw c.count_store.ensures (tally_next s i c.loop-i.seen _ c.step_at-step.ensures c.loop-i.invariant.counted);
    }
