use Rattle.std.proofs.Common.{◌≡◌, ◌-◌, ℕ, arith, sym, ◌∙◌, subst}
use Rattle.leaf.specs.Leaf.{leaf_in}
use Rattle.leaf.proofs.TallySteps.{Left, left_whole, left_down, left_next, left_none, twins_found}
use Rattle.leaf.proofs.tally.has_twins.Goals as goal

pub loop-s-init : goal.loop-s-init
loop-s-init c = left_whole c.args.leaf.now _ c.requires

pub returns-then-left-eq0 : goal.returns-then-left-eq0
returns-then-left-eq0 c = left_none _ c.loop-s.s c.loop-s.left c.if-left-eq0.true c.loop-s.invariant

pub is_hit_twin-requires : goal.is_hit_twin-requires
is_hit_twin-requires c =
    rw c.new.ensures (left_down _ _ _ c.loop-s-test.true c.loop-s.invariant).told.0

pub returns-then-is_hit_twin : goal.returns-then-is_hit_twin
returns-then-is_hit_twin c =
    twins_found _ (c.loop-s.s - 1) (omega (arith, c.loop-s-test.true)) (sym (rw c.new.ensures at c.is_hit_twin.ensures) ∙ c.if-is_hit_twin.true)

pub loop-s-preserved : goal.loop-s-preserved
loop-s-preserved c = left_next _ (c.loop-s.s - 1) c.loop-s.left (left_down _ _ _ c.loop-s-test.true c.loop-s.invariant) (sym (rw c.new.ensures at c.is_hit_twin.ensures) ∙ c.if-is_hit_twin.false)

pub returns : goal.returns
returns c =
    let e : c.loop-s.s ≡ 0 = omega arith in
    let k = subst (λ (n : ℕ). Left (leaf_in c.args.leaf.now) n c.loop-s.left) e c.loop-s.invariant in left_none _ 0 _ k.told k
