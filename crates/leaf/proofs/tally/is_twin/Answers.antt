use Rattle.std.proofs.Common.{◌≡◌, arith, refl, sym, ◌∙◌}
use Rattle.words.specs.Below.{any_below}
use Rattle.words.specs.BelowLaws.{any_next}
use Rattle.leaf.specs.Leaf.{leaf_in}
use Rattle.leaf.specs.Tally.{shares}
use Rattle.leaf.proofs.TallySteps.{twin_found, twin_none, twin_vacant}
use Rattle.leaf.proofs.tally.is_twin.Goals as goal

pub loop-t-init : goal.loop-t-init
unfolding any_below
loop-t-init c = refl

pub returns-then-has_both : goal.returns-then-has_both
returns-then-has_both c =
    twin_found _ c.args.s c.loop-t.t
    (sym c.occupied.ensures ∙ c.if-occupied.true)
    (omega arith)
    (sym (rw c.new.ensures at (c.has_both.ensures c.args.s c.print_at-print.ensures c.key_at-key.ensures)) ∙ c.if-has_both.true)

pub loop-t-preserved : goal.loop-t-preserved
loop-t-preserved c =
    any_next (shares (leaf_in c.args.leaf.now) c.args.s) c.loop-t.t c.loop-t.invariant
    (sym (rw c.new.ensures at (c.has_both.ensures c.args.s c.print_at-print.ensures c.key_at-key.ensures)) ∙ c.if-has_both.false)

pub returns-after-loop-t : goal.returns-after-loop-t
returns-after-loop-t c =
    let e : c.loop-t.t ≡ c.args.s = omega arith in
    twin_none _ c.args.s
    (sym c.occupied.ensures ∙ c.if-occupied.true)
    (rw e at c.loop-t.invariant)

pub returns-else-occupied : goal.returns-else-occupied
returns-else-occupied c =
    twin_vacant _ c.args.s (sym c.occupied.ensures ∙ c.if-occupied.false)
