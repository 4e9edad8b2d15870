use Rattle.std.proofs.Common.{sym, ◌∙◌, eq-eqb}
use borrow.Author.Tests.{eqb-true}
use Rattle.words.specs.Bools.{differ}
use Rattle.leaf.proofs.SearchSteps.{in_fp, holds_key_lem, holds_vacant, holds_other}
use Rattle.leaf.proofs.search.holds.Goals as goal
use Rattle.leaf.proofs.search.holds.Goals.{then-occupied, else-occupied}

pub returns-then-fingerprint-fp : goal.returns-then-fingerprint-fp
returns-then-fingerprint-fp c =
    let o = sym c.occupied.ensures in
    elim c.if-occupied.branch [
      | then-occupied w ↦
          rw c.key_at.ensures
          (holds_key_lem _ c.args.key c.args.s (o ∙ w.if-occupied.true)
          (sym (w.fingerprint.ensures ∙ in_fp _ _ w.head.ensures _)
          ∙ eqb-true _ _ (sym w.value-is ∙ c.if-fingerprint-fp.true)
          ∙ c.requires))
      | else-occupied w ↦ differ (sym c.if-fingerprint-fp.true ∙ w.value-is ∙ w.if-occupied.false)
    ]

pub returns-else-fingerprint-fp : goal.returns-else-fingerprint-fp
returns-else-fingerprint-fp c =
    let o = sym c.occupied.ensures in
    c.if-fingerprint-fp.false
    ∙ elim c.if-occupied.branch [
      | then-occupied w ↦
          holds_other _ c.args.key c.args.s (o ∙ w.if-occupied.true)
          (λ e. differ
          (sym (eq-eqb _ _ (w.fingerprint.ensures ∙ in_fp _ _ w.head.ensures _ ∙ e ∙ sym c.requires))
          ∙ sym w.value-is
          ∙ c.if-fingerprint-fp.false))
      | else-occupied w ↦ holds_vacant _ c.args.key c.args.s (o ∙ w.if-occupied.false)
    ]
