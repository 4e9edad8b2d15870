use Rattle.std.proofs.Common.{arith}
use Rattle.header.specs.Header.{bits_of}
use Rattle.leaf.specs.Leaf.{leaf_in}
use Rattle.emit.specs.PutLaws.{far_put_lem}
use Rattle.emit.proofs.plain.append_far_put.Goals as goal

pub returns : goal.returns
returns c =
    let a = c.args in
    let n = c.append_copies-n.ensures in
    let r = far_put_lem (bits_of a.head) (leaf_in a.leaf.now) a.block a.s a.entry.key a.entry.value a.at
    c.append_copies-n.result _ (bits_of c.filled_head.result) a.list.now _ _ _ _
    c.append_entry.ensures n.0 n.1
    (omega (arith, c.line.ensures))
    c.append_settling.ensures c.filled_head.ensures c.append_header.ensures in
    (r.0, r.1, omega (arith, n.2))
