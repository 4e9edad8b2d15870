use Rattle.std.proofs.Common.{arith, sym, ◌∙◌}
use Rattle.leaf.specs.Leaf.{leaf_in}
use Rattle.leaf.specs.Search.{holds_key}
use Rattle.leaf.proofs.SearchSteps.{slot_whole, lowest_found, lowest_passed, lowest_end}
use Rattle.leaf.proofs.search.find_slot.Goals as goal

pub loop-n-init : goal.loop-n-init
loop-n-init c = slot_whole c.args.leaf.now c.args.key

pub returns-then-holds : goal.returns-then-holds
returns-then-holds c =
    rw c.new-s.ensures
    (sym (lowest_found (holds_key (leaf_in c.args.leaf.now) c.args.key) 14 c.loop-n.n (omega arith)
    (sym (rw c.new-s.ensures at c.holds.ensures) ∙ c.if-holds.true))
    ∙ c.loop-n.invariant)

pub loop-n-preserved : goal.loop-n-preserved
loop-n-preserved c =
    sym (lowest_passed (holds_key (leaf_in c.args.leaf.now) c.args.key) 14 c.loop-n.n (omega arith)
    (sym (rw c.new-s.ensures at c.holds.ensures) ∙ c.if-holds.false))
    ∙ c.loop-n.invariant

pub returns : goal.returns
returns c = sym (lowest_end (holds_key (leaf_in c.args.leaf.now) c.args.key) 14 c.loop-n.n (omega arith)) ∙ c.loop-n.invariant
