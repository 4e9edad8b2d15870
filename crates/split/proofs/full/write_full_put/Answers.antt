use Rattle.std.proofs.Common.{◌≡◌, length, sym, ◌∙◌, lt-ltb, le-ltb, arith, rules}
use Rattle.header.specs.Header.{bits_of, head_at}
use Rattle.leaf.specs.Leaf.{leaf_in}
use Rattle.split.specs.Full.{up_is, full_up, full_below}
use Rattle.split.proofs.full.write_full_put.Goals as goal

pub write_split-left-requires : goal.write_split-left-requires
write_split-left-requires c =
    let a = c.args in
    let ss = c.upper_half-moved.result.slots in
    let seven : length ss ≡ 7 = search rules in
    let first = rw c.new.ensures at c.key_at.ensures in (
      omega arith,
      c.upper_half-moved.ensures,
      up_is (leaf_in a.leaf.now) ss a.entry.key c.key_at.result seven c.upper_half-moved.ensures first,
    )

pub returns-then-up : goal.returns-then-up
returns-then-up c =
    let a = c.args in
    let ss = c.upper_half-moved.result.slots in
    let seven : length ss ≡ 7 = search rules in
    let first = rw c.new.ensures at c.key_at.ensures in
    let u = up_is (leaf_in a.leaf.now) ss a.entry.key c.key_at.result seven c.upper_half-moved.ensures first in
    full_up (head_at a.leaf.now 0) (leaf_in a.leaf.now) a.block a.new a.entry.key a.entry.value a.list.now (omega arith) c.requires.1
    c.requires.2 _ (sym u ∙ lt-ltb _ _ c.if-up.true) c.write_split-left.ensures.list

pub returns : goal.returns
returns c =
    let a = c.args in
    let ss = c.upper_half-moved.result.slots in
    let seven : length ss ≡ 7 = search rules in
    let first = rw c.new.ensures at c.key_at.ensures in
    let u = up_is (leaf_in a.leaf.now) ss a.entry.key c.key_at.result seven c.upper_half-moved.ensures first in
    full_below (head_at a.leaf.now 0) (leaf_in a.leaf.now) a.block a.new a.entry.key a.entry.value a.list.now (omega arith) c.requires.1
    c.requires.2 _ _ (bits_of c.write_split-left.result) c.append_plain_put.result (sym u ∙ le-ltb _ _ c.if-up.false)
    c.write_split-left.ensures.list
    (rw (← c.upper_half-moved.ensures) c.write_split-left.ensures.left)
    c.append_plain_put.ensures
