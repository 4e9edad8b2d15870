use Rattle.std.proofs.Common.{arith, sym, ap, ◌∙◌}
use Rattle.header.specs.Header.{fingerprint_of}
use Rattle.leaf.specs.Leaf.{leaf_in}
use Rattle.leaf.proofs.TallySteps.{tells_few, tells_taken, tells_vacant, stamped_taken, stamped_vacant}
use Rattle.leaf.proofs.tally.slot.Goals as goal

pub note-requires : goal.note-requires
note-requires c = (
  tells_few (leaf_in c.args.leaf.now) c.args.s c.args.t (omega arith) c.requires.1,
  c.stamp-hit.ensures.2,
  c.own_print-own.ensures ∙ ap fingerprint_of (sym c.key_at-key.ensures),
)

pub pass_over-requires : goal.pass_over-requires
pass_over-requires c = (tells_few (leaf_in c.args.leaf.now) c.args.s c.args.t (omega arith) c.requires.1).hits

pub returns-then-occupied : goal.returns-then-occupied
returns-then-occupied c =
    let a = c.args in (
      tells_taken (leaf_in a.leaf.now) a.s a.number a.stamps.now a.t c.requires.1
          c.print_at-print.result c.key_at-key.result c.stamp-hit.result c.note.result c.requires.2
          (sym c.occupied.ensures ∙ c.if-occupied.true)
          c.print_at-print.ensures
          c.key_at-key.ensures
          c.stamp-hit.ensures.1
          c.note.ensures,
      stamped_taken (leaf_in a.leaf.now) a.number a.s a.stamps.now _ c.print_at-print.result c.requires.2
          c.print_at-print.ensures
          (omega arith)
          c.stamp-hit.ensures.0,
    )

pub returns : goal.returns
returns c =
    let a = c.args in
    let v = sym c.occupied.ensures ∙ c.if-occupied.false in (
      tells_vacant (leaf_in a.leaf.now) a.s a.number a.stamps.now a.t c.requires.1 _ v
          c.pass_over.ensures,
      stamped_vacant (leaf_in a.leaf.now) a.number a.s a.stamps.now c.requires.2 v,
    )
