use Rattle.std.proofs.Common.{◌≡◌, ◌+◌, sym, ap, ◌∙◌, arith}
use Rattle.header.specs.Header.{bits_of}
use Rattle.leaf.specs.Leaf.{leaf_in}
use Rattle.leaf.proofs.LeafLaws.{occ_in_lem}
use Rattle.lists.specs.Lists.{last_beside}
use Rattle.emit.specs.CopyLaws.{filled_start, filled_taken, filled_vacant, filled_end}
use Rattle.emit.proofs.plain.filled_head.Goals as goal
use Rattle.emit.proofs.plain.filled_head.Goals.{then-not-occupied, else-not-occupied}

pub loop-n-init : goal.loop-n-init
loop-n-init c =
    let a = c.args in
    rw c.number-n.ensures.0 (filled_start (bits_of a.head) (leaf_in a.leaf.now) a.s a.key _ (rw (← c.fingerprint_of.ensures) c.mark-filled.ensures))

pub loop-n-preserved : goal.loop-n-preserved
loop-n-preserved c =
    let a = c.args in
    let h = bits_of a.head in
    let l = c.loop-n in
    let L = leaf_in a.leaf.now in
    let at = occ_in_lem h l.n (omega arith) ∙ sym (rw c.new-t.ensures at c.occupied.ensures) in
    elim c.if-not-occupied.branch [
      | then-not-occupied w ↦ filled_vacant h L a.s a.key l.n (bits_of l.filled) l.from (omega arith) l.invariant _ _
          (at ∙ w.if-not-occupied.true)
          (ap bits_of w.filled-is ∙ rw (c.new-t.ensures, w.new.ensures) at w.moved-filled.ensures) w.from-is
      | else-not-occupied w ↦ filled_taken h L a.s a.key l.n (bits_of l.filled) l.from (omega arith) l.invariant _ _
          (at ∙ w.if-not-occupied.false)
          (ap bits_of w.filled-is) w.from-is
    ]

pub returns : goal.returns
returns c =
    let a = c.args in
    let l = c.loop-n in
    let e : l.n ≡ last_beside a.s + 1 = omega (arith, c.last_beside-last.ensures.0) in
    filled_end (bits_of a.head) (leaf_in a.leaf.now) a.s a.key l.n (bits_of l.filled) l.from e l.invariant
