use Rattle.std.proofs.Common.{arith, refl, sym, ap, ◌∙◌, not}
use Rattle.header.specs.Header.{bits_of}
use Rattle.leaf.specs.Leaf.{occ_in}
use Rattle.leaf.specs.Search.{lowest_vacant}
use Rattle.leaf.proofs.LeafLaws.{occ_in_lem}
use Rattle.leaf.proofs.SearchSteps.{lowest_found, lowest_passed, lowest_end}
use Rattle.leaf.proofs.search.lowest_vacant.Goals as goal

pub loop-n-init : goal.loop-n-init
unfolding lowest_vacant
loop-n-init c = refl

pub returns-then-not-occupied : goal.returns-then-not-occupied
returns-then-not-occupied c =
    let h = bits_of c.args.head in
    rw c.new-s.ensures
    (sym (lowest_found (λ t. not (occ_in h t)) 14 c.loop-n.n (omega arith)
    (ap not (occ_in_lem h c.loop-n.n (omega arith) ∙ sym (rw c.new-s.ensures at c.occupied.ensures) ∙ c.if-not-occupied.true)))
    ∙ c.loop-n.invariant)

pub loop-n-preserved : goal.loop-n-preserved
loop-n-preserved c =
    let h = bits_of c.args.head in
    sym (lowest_passed (λ t. not (occ_in h t)) 14 c.loop-n.n (omega arith)
    (ap not (occ_in_lem h c.loop-n.n (omega arith) ∙ sym (rw c.new-s.ensures at c.occupied.ensures) ∙ c.if-not-occupied.false)))
    ∙ c.loop-n.invariant

pub returns : goal.returns
returns c = sym (lowest_end (λ t. not (occ_in (bits_of c.args.head) t)) 14 c.loop-n.n (omega arith)) ∙ c.loop-n.invariant
