use Rattle.std.proofs.Common.{◌≡◌, arith, refl, sym, ap, ◌∙◌}
use Rattle.words.specs.Bools.{bit}
use Rattle.words.specs.Below.{count_below}
use Rattle.words.specs.BelowLaws.{count_next}
use Rattle.header.specs.Header.{bits_of}
use Rattle.leaf.specs.Leaf.{occ_in}
use Rattle.leaf.proofs.LeafLaws.{occ_in_lem}
use Rattle.leaf.proofs.search.entries.Goals as goal
use Rattle.leaf.proofs.search.entries.Goals.{then-occupied, else-occupied}

pub loop-s-init : goal.loop-s-init
unfolding count_below
loop-s-init c = (omega arith, refl)

pub loop-s-preserved : goal.loop-s-preserved
loop-s-preserved c =
    let h = bits_of c.args.head in
    let o = occ_in_lem h c.loop-s.s (omega arith) ∙ sym (rw c.new.ensures at c.occupied.ensures) in
    let next = count_next (occ_in h) c.loop-s.n c.loop-s.s c.loop-s.invariant.1 in
    elim c.if-occupied.branch [
      | then-occupied w ↦ (omega arith, w.n-is ∙ next 1 (sym (ap bit (o ∙ w.if-occupied.true))))
      | else-occupied w ↦ (omega arith, omega (arith, w.n-is, next 0 (sym (ap bit (o ∙ w.if-occupied.false)))))
    ]

pub returns : goal.returns
returns c =
    let e : c.loop-s.s ≡ 14 = omega arith in c.loop-s.invariant.1 ∙ ap (count_below (occ_in (bits_of c.args.head))) e
