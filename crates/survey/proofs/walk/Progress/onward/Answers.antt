-- Each field by its branch; the blocks met are those before and the next.
use Rattle.std.proofs.Common.{◌≡◌, rules, ◌+◌}
use Rattle.std.specs.Prelude.{cond, eqb}
use Rattle.words.specs.Bools.{bit}
use Rattle.survey.specs.Walk.{stage_number}
use Rattle.survey.proofs.walk.Progress.onward.Goals as goal
use Rattle.survey.proofs.walk.Progress.onward.Goals.{then-next-eq0, else-next-eq0, then-reached, else-reached, then-reached-2, else-reached-2, then-t-eq0, else-t-eq0}

pub returns : goal.returns
returns c =
    let a = c.args in
    let w = a.self.now in
    let stage : stage_number c.if-next-eq0.self ≡ cond (eqb a.next 0) 1 0
    = elim c.if-next-eq0.branch [ then-next-eq0 w ↦ search rules | else-next-eq0 w ↦ search rules ] in
    let target : c.if-reached.self ≡ cond (eqb (bit a.reached) 0) w.target w.at
    = elim c.if-reached.branch [ then-reached w ↦ search rules | else-reached w ↦ search rules ] in
    let before : c.if-reached-2.self ≡ cond (eqb (bit a.reached) 0) w.before w.prev
    = elim c.if-reached-2.branch [ then-reached-2 w ↦ search rules | else-reached-2 w ↦ search rules ] in
    let last : c.if-t-eq0.self ≡ cond (eqb a.t.entries 0) w.last a.t.most
    = elim c.if-t-eq0.branch [ then-t-eq0 w ↦ search rules | else-t-eq0 w ↦ search rules ] in
    λ i. record {
      stage = stage i;
      at = a.next;
      prev = w.at;
      target = target i;
      before = before i;
      leaves = w.leaves + 1;
      entries = w.entries + a.t.entries;
      last = last i;
      met = c.mark.ensures i;
    }
