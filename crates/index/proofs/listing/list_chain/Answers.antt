use Rattle.std.proofs.Common.{◌≡◌, ℕ, ◌+◌, ◌-◌, ◌<◌, length, arith, length-take, length-drop, sym, ◌∙◌}
use Rattle.leaf.specs.Leaf.{Right}
use Rattle.image.specs.Image.{blocks, leaves}
use borrow.Rule.Slice.PartMut.{put_mid}
use Rattle.index.specs.Filling.{buffers, fill}
use Rattle.index.specs.ListingLaws.{entries_from}
use Rattle.index.proofs.Along.{ahead_here, ahead_next}
use Rattle.index.proofs.ListingLaws.{leaf_listed, chain_done, chain_next, chain_ends, chain_full}
use Rattle.index.proofs.listing.list_chain.Goals as goal
use Rattle.index.proofs.listing.list_chain.Goals.{In-loop-turn, After-list_leaf-n}

-- the block at hand is one of the image, and its leaf is right
here : (c : In-loop-turn) → (c.loop-turn.block < blocks c.args.image.now) × Right (leaves c.args.image.now c.loop-turn.block)
here c =
    ahead_here (leaves c.args.image.now) (blocks c.args.image.now) c.loop-turn._turn c.loop-turn.block
    (λ b. (b < blocks c.args.image.now) × Right (leaves c.args.image.now b)) c.loop-turn-test.true c.loop-turn.invariant.ahead

pub page_of-leaf-requires : goal.page_of-leaf-requires
page_of-leaf-requires c = omega (arith, (here (goal.at.page_of-leaf-requires c).In-loop-turn).0, c.requires.0)

pub list_leaf-n-requires : goal.list_leaf-n-requires
list_leaf-n-requires c = (
  rw c.page_of-leaf.ensures.leaf (here (goal.at.list_leaf-n-requires c).In-loop-turn).1,
  omega (arith, c.requires.1, length-take {A = ℕ}, length-drop {A = ℕ}),
)

pub next_block-block-requires : goal.next_block-block-requires
next_block-block-requires c = omega (arith, (here (goal.at.next_block-block-requires c).In-loop-turn).0, c.requires.0)

-- the leaf at hand is listed
leaf_done : (c : After-list_leaf-n)
    → buffers (c.loop-turn.n + c.list_leaf-n.result)
    (put_mid c.loop-turn.n (length c.loop-turn.keys - c.loop-turn.n) c.loop-turn.keys c.list_leaf-n.new.keys)
    (put_mid c.loop-turn.n (length c.loop-turn.values - c.loop-turn.n) c.loop-turn.values c.list_leaf-n.new.values)
    ≡ fill (length c.args.keys.now) (entries_from (leaves c.args.image.now c.loop-turn.block) c.loop-turn.lo)
    (buffers c.loop-turn.n c.loop-turn.keys c.loop-turn.values)
leaf_done c =
    leaf_listed c.loop-turn.n (length c.args.keys.now) c.loop-turn.keys c.loop-turn.values c.loop-turn.invariant.fit
    c.loop-turn.auto.keys (c.loop-turn.auto.values ∙ sym c.requires.1) _ _ c.page_of-leaf.ensures.leaf c.loop-turn.lo _ _ _
    c.list_leaf-n.ensures.filled

pub returns-then-n-room : goal.returns-then-n-room
returns-then-n-room c =
    let l = c.args.image.now in
    let leaf = leaf_done (goal.at.returns-then-n-room c).After-list_leaf-n in
    chain_full (leaves l) (blocks l) (length c.args.keys.now) c.loop-turn._turn c.loop-turn.block c.loop-turn.lo _ _
    c.loop-turn.invariant.left c.loop-turn-test.true _ leaf (omega (arith, c.if-n-room.true))

pub returns-then-block-eq0 : goal.returns-then-block-eq0
returns-then-block-eq0 c =
    let l = c.args.image.now in
    let leaf = leaf_done (goal.at.returns-then-block-eq0 c).After-list_leaf-n in
    chain_ends (leaves l) (blocks l) (length c.args.keys.now) c.loop-turn._turn c.loop-turn.block c.loop-turn.lo _ _
    c.loop-turn.invariant.left c.loop-turn-test.true _ leaf _ c.next_block-block.ensures c.if-block-eq0.true

pub loop-turn-preserved : goal.loop-turn-preserved
loop-turn-preserved c =
    let l = c.args.image.now in
    let leaf = leaf_done (goal.at.loop-turn-preserved c).After-list_leaf-n in
    record {
      fit = omega (arith, c.list_leaf-n.ensures.few, length-take {A = ℕ}, length-drop {A = ℕ});
      ahead = ahead_next (leaves l) (blocks l) c.loop-turn._turn c.loop-turn.block c.next_block-block.result
          (λ b. (b < blocks l) × Right (leaves l b)) c.loop-turn-test.true c.next_block-block.ensures c.if-block-eq0.false
          c.loop-turn.invariant.ahead;
      left = chain_next (leaves l) (blocks l) (length c.args.keys.now) c.loop-turn._turn c.loop-turn.block c.loop-turn.lo _ _
          c.loop-turn.invariant.left c.loop-turn-test.true _ leaf _ c.next_block-block.ensures c.if-block-eq0.false;
    }

pub returns : goal.returns
returns c =
    let l = c.args.image.now in
    chain_done (leaves l) (blocks l) (length c.args.keys.now) c.loop-turn._turn c.loop-turn.block c.loop-turn.lo _ _
    c.loop-turn.invariant.left (omega arith)
