use Rattle.std.proofs.Common.{rules, arith, sym, ◌∙◌}
use Rattle.writing.proofs.ChangeLaws.{del_refused, del_absent, del_made}
use Rattle.writing.proofs.change.del.Goals as goal

pub returns-in_err-w : goal.returns-in_err-w
returns-in_err-w c = search (rules, del_refused)

pub returns-in_err-s : goal.returns-in_err-s
returns-in_err-s c = search (rules, del_absent c.in_ok-w.ensures (sym (rw c.page_in.ensures.leaf at c.find_slot.ensures) ∙ c.in_err-s.ensures.ok_part))

pub write_del-requires : goal.write_del-requires
write_del-requires c =
    let w = c.in_ok-w.ensures in
    (omega (arith, w.before_inside, w.target_inside), omega (arith, w.before_inside, w.target_inside), w.room)

pub returns : goal.returns
returns c =
    del_made c.in_ok-w.ensures (sym (rw c.page_in.ensures.leaf at c.find_slot.ensures) ∙ c.in_ok-s.ensures.ok_part) c.three_steps.ensures c.write_del.ensures
