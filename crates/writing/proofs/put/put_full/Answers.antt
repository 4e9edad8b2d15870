use Rattle.std.proofs.Common.{arith, ap, ◌∙◌, ℕ, ◌-◌, ◌+◌}
use Rattle.writing.specs.PutCounts.{counts}
use Rattle.writing.proofs.PutCounts.{full_some, full_wrote}
use Rattle.writing.proofs.put.put_full.Goals as goal

pub full_lines-lines-requires : goal.full_lines-lines-requires
full_lines-lines-requires c =
    full_some _ _ _ _ _ _ _ _ _ _ c.write_full_put-n.ensures c.requires.3.1 c.requires.1 c.requires.2

pub of-requires : goal.of-requires
of-requires c =
    let some = full_some _ _ _ _ _ _ _ _ _ _ c.write_full_put-n.ensures c.requires.3.1 c.requires.1 c.requires.2 in omega arith

pub returns : goal.returns
returns c = λ w has.
    let n = c.write_full_put-n.result in
    full_wrote _ _ _ _ _ _ _ _ _ _ c.write_full_put-n.ensures has c.requires.1 c.requires.2 c.of.result
    (c.of.ensures ∙ ap (λ (lines : ℕ). counts n lines (n - (lines + (lines - 4)))) c.full_lines-lines.ensures.0)
