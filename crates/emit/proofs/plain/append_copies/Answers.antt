-- A slot that is occupied adds nothing, and a vacant one its entry.
use Rattle.std.proofs.Common.{◌≡◌, ◌+◌, sym, ◌∙◌, arith}
use Rattle.header.specs.Header.{bits_of}
use Rattle.leaf.specs.Leaf.{leaf_in}
use Rattle.leaf.proofs.LeafLaws.{occ_in_lem}
use Rattle.lists.specs.Lists.{last_beside}
use Rattle.emit.specs.CopyLaws.{copied_start, copied_taken, copied_vacant, copied_end}
use Rattle.emit.proofs.plain.append_copies.Goals as goal
use Rattle.emit.proofs.plain.append_copies.Goals.{then-not-occupied, else-not-occupied}

pub loop-n-init : goal.loop-n-init
loop-n-init c = let a = c.args in rw c.number-n.ensures.0 (copied_start (bits_of a.head) (leaf_in a.leaf.now) a.block a.s a.at a.list.now)

pub loop-n-preserved : goal.loop-n-preserved
loop-n-preserved c =
    let a = c.args in
    let h = bits_of a.head in
    let L = leaf_in a.leaf.now in
    let l = c.loop-n in
    let at = occ_in_lem h l.n (omega arith) ∙ sym (rw c.new-t.ensures at c.occupied.ensures) in
    elim c.if-not-occupied.branch [
      | then-not-occupied w ↦ copied_vacant h L a.block a.s a.at a.list.now l.n l.list _ l.from _ (omega arith) l.invariant _ _
          (at ∙ w.if-not-occupied.true) (rw w.new.ensures at w.entry_at.ensures.0) (rw w.new.ensures at w.entry_at.ensures.1)
          (w.list-is ∙ rw c.new-t.ensures at w.append_entry.ensures) w.from-is
      | else-not-occupied w ↦ copied_taken h L a.block a.s a.at a.list.now l.n l.list _ l.from _ (omega arith) l.invariant
          (at ∙ w.if-not-occupied.false) w.list-is w.from-is
    ]

pub returns : goal.returns
returns c =
    let a = c.args in
    let l = c.loop-n in
    let e : l.n ≡ last_beside a.s + 1 = omega (arith, c.last_beside-last.ensures.0) in
    let r = copied_end (bits_of a.head) (leaf_in a.leaf.now) a.block a.s a.at a.list.now l.n l.list l.from e l.invariant in
    (r.0, r.1, omega (arith, l.invariant.few))
