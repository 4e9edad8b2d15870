use Rattle.std.proofs.Common.{refl, sym, ◌∙◌}
use Rattle.machine.proofs.Lost.{arrivals_short, arrivals_judged}
use Rattle.machine.proofs.refusals.check_arrivals.Goals as goal
use Rattle.machine.proofs.refusals.check_arrivals.Goals.{
  then-arrivals-size-via-then-arrivals-size,
  then-arrivals-size-via-else-arrivals-size+then-exceeds_made,
  then-arrivals-size-via-else-arrivals-size+else-exceeds_made+then-misses_settled,
}

pub returns-then-arrivals-size : goal.returns-then-arrivals-size
returns-then-arrivals-size c =
    let a = c.args in
    let judged = arrivals_judged a.size a.list.now a.n a.arrivals.now c.requires in
    elim c.then-arrivals-size.branch [
      | then-arrivals-size-via-then-arrivals-size w ↦
          (arrivals_short a.size a.list.now a.n a.arrivals.now w.if-arrivals-size.true, refl)
      | then-arrivals-size-via-else-arrivals-size+then-exceeds_made w ↦
          (sym (rw (sym w.exceeds_made.ensures ∙ w.if-exceeds_made.true) at (judged w.if-arrivals-size.false)), refl)
      | then-arrivals-size-via-else-arrivals-size+else-exceeds_made+then-misses_settled w ↦ (
        sym (rw (sym w.exceeds_made.ensures ∙ w.if-exceeds_made.false, sym w.misses_settled.ensures ∙ w.if-misses_settled.true) at
            (judged w.if-arrivals-size.false)),
        refl,
      )
    ]

pub returns : goal.returns
returns c =
    let a = c.args in
    sym (rw (sym c.exceeds_made.ensures ∙ c.if-exceeds_made.false, sym c.misses_settled.ensures ∙ c.if-misses_settled.false) at
    (arrivals_judged a.size a.list.now a.n a.arrivals.now c.requires c.if-arrivals-size.false))
