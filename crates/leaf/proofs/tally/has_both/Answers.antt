use Rattle.std.proofs.Common.{sym, ◌∙◌, eq-eqb}
use borrow.Author.Tests.{eqb-true}
use Rattle.words.specs.Bools.{differ}
use Rattle.leaf.proofs.TallySteps.{shares_key, shares_other, shares_vacant}
use Rattle.leaf.proofs.tally.has_both.Goals as goal
use Rattle.leaf.proofs.tally.has_both.Goals.{then-occupied, else-occupied}

pub returns-then-print_at-print : goal.returns-then-print_at-print
returns-then-print_at-print c = λ s print key.
    let o = sym c.occupied.ensures in
    elim c.if-occupied.branch [
      | then-occupied w ↦
          rw (c.key_at.ensures, key)
          (shares_key _ s c.args.t (o ∙ w.if-occupied.true)
          (sym w.print_at.ensures ∙ eqb-true _ _ (sym w.value-is ∙ c.if-print_at-print.true) ∙ print))
      | else-occupied w ↦ differ (sym c.if-print_at-print.true ∙ w.value-is ∙ w.if-occupied.false)
    ]

pub returns-else-print_at-print : goal.returns-else-print_at-print
returns-else-print_at-print c = λ s print key.
    let o = sym c.occupied.ensures in
    c.if-print_at-print.false
    ∙ elim c.if-occupied.branch [
      | then-occupied w ↦
          shares_other _ s c.args.t (o ∙ w.if-occupied.true)
          (λ e. differ (sym (eq-eqb _ _ (w.print_at.ensures ∙ e ∙ sym print)) ∙ sym w.value-is ∙ c.if-print_at-print.false))
      | else-occupied w ↦ shares_vacant _ s c.args.t (o ∙ w.if-occupied.false)
    ]
