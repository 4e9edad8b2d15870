use Rattle.std.proofs.Common.{arith, ap, ◌∙◌, ℕ, ◌-◌, ◌+◌}
use Rattle.leaf.specs.Leaf.{leaf_in}
use Rattle.lists.specs.Lists.{put_at}
use Rattle.writing.specs.Writing.{outcome}
use Rattle.writing.specs.PutCounts.{counts}
use Rattle.writing.proofs.PutCounts.{plain_some, plain_wrote}
use Rattle.writing.proofs.put.put_plain.Goals as goal

pub of-requires : goal.of-requires
of-requires c = let some = plain_some _ _ _ _ _ _ _ _ _ c.append_put_at-n.ensures in omega arith

pub returns : goal.returns
returns c =
    let a = c.args in
    let n = c.append_put_at-n.result in
    plain_wrote _ _ _ _ _ _ _ _ _ c.append_put_at-n.ensures c.of.result (omega arith)
    (c.of.ensures ∙ ap (λ (lines : ℕ). counts n lines (n - (lines + lines))) c.plain_lines-lines.ensures.0)
    ∙ ap (λ (h : ℕ). outcome 0 (put_at h (leaf_in a.leaf.now) a.block a.s a.entry.key a.entry.value) a.list.now) c.head.ensures
