use Rattle.std.proofs.Common.{ℕ, ◌≡◌, ◌*◌, cond, length, ap, ◌∙◌, arith, rules}
use Rattle.header.specs.Header.{bits_of}
use Rattle.leaf.specs.Leaf.{leaf_in}
use Rattle.steps.specs.Stores.{stores_from}
use Rattle.lists.specs.FullLists.{new_words}
use Rattle.emit.specs.Appended.{appended, start_place}
use Rattle.split.specs.Stores.{new_leaf_lem}
use Rattle.split.proofs.write.write_new_leaf.Goals as goal
use Rattle.split.proofs.write.write_new_leaf.Goals.{then-up, else-up}

pub returns : goal.returns
returns c =
    let a = c.args in
    let l = a.list.now in
    let L = leaf_in a.leaf.now in
    let ss = a.moved.now.slots in
    let last = c.if-up.last in
    let seven : length ss ≡ 7 = search rules in
    let key : last.key ≡ cond a.up a.entry.key 0 = elim c.if-up.branch [
      | then-up w ↦ search rules
      | else-up w ↦ search rules
    ] in
    let value : last.value ≡ cond a.up a.entry.value 0 = elim c.if-up.branch [
      | then-up w ↦ search rules
      | else-up w ↦ search rules
    ] in
    new_leaf_lem l _ _ _ (32 * c.from-place.result) _ _ a.up L ss a.entry.key a.entry.value (bits_of c.new_head.result) last.key last.value
    c.next_of.result seven (omega (arith, c.key_word.ensures)) (omega (arith, c.sibling_word.ensures))
    c.write_lower.ensures c.append_moved.ensures c.append_pair.ensures c.new_head.ensures key value c.next_of.ensures
    ∙ ap (λ (p : ℕ). appended l 0 (stores_from p (new_words a.up L ss a.entry.key a.entry.value))) (rw c.from-place.ensures (start_place a.new))
