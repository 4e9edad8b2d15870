use Rattle.std.proofs.Common.{rules, arith, sym, ◌∙◌}
use Rattle.writing.proofs.ChangeLaws.{set_refused, set_absent, set_made}
use Rattle.writing.proofs.change.set.Goals as goal

pub returns-in_err-w : goal.returns-in_err-w
returns-in_err-w c = search (rules, set_refused)

pub returns-in_err-s : goal.returns-in_err-s
returns-in_err-s c = search (rules, set_absent c.in_ok-w.ensures (sym (rw c.page_in.ensures.leaf at c.find_slot.ensures) ∙ c.in_err-s.ensures.ok_part) c.args.value)

pub write_set-requires : goal.write_set-requires
write_set-requires c = omega (arith, c.in_ok-w.ensures.room)

pub returns : goal.returns
returns c =
    set_made c.in_ok-w.ensures (sym (rw c.page_in.ensures.leaf at c.find_slot.ensures) ∙ c.in_ok-s.ensures.ok_part) c.three_steps.ensures c.args.value c.write_set.ensures
