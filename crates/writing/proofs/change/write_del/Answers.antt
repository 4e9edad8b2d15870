use Rattle.std.proofs.Common.{ap, sym, ◌∙◌, List, ℕ}
use Rattle.words.specs.Words.{reads}
use Rattle.words.specs.Below.{count_below}
use Rattle.leaf.specs.Leaf.{occ_in}
use Rattle.steps.specs.declared.Step.{Step}
use Rattle.steps.specs.Encoding.{written}
use Rattle.writing.proofs.ChangeLaws.{alone_unlink, others_clear}
use Rattle.writing.proofs.change.write_del.Goals as goal

pub returns-then-is_alone : goal.returns-then-is_alone
returns-then-is_alone c =
    let r = reads c.args.image.now in
    c.write_unlink.ensures r c.args.block (sym (c.head-head.ensures ∙ c.page_in.ensures.head))
    (sym (rw c.page_in-leaf.ensures.leaf at c.next_of.ensures))
    ∙ ap (λ (l : List Step). written l c.args.list.now)
    (alone_unlink r c.args.before c.args.block c.args.s c.entries.result
    (c.entries.ensures ∙ ap (λ (z : ℕ). count_below (occ_in z) 14) (c.head.ensures ∙ c.page_in-leaf.ensures.head))
    (sym c.is_alone.ensures ∙ c.if-is_alone.true))

pub returns-else-is_alone : goal.returns-else-is_alone
returns-else-is_alone c =
    let r = reads c.args.image.now in
    c.write_clear.ensures r (sym (c.head-else-is_alone.ensures ∙ c.page_in-leaf.ensures.head))
    ∙ ap (λ (l : List Step). written l c.args.list.now)
    (others_clear r c.args.before c.args.block c.args.s c.entries.result
    (c.entries.ensures ∙ ap (λ (z : ℕ). count_below (occ_in z) 14) (c.head.ensures ∙ c.page_in-leaf.ensures.head))
    (sym c.is_alone.ensures ∙ c.if-is_alone.false))
