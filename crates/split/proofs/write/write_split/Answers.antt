use Rattle.std.proofs.Common.{ℕ, ◌≡◌, ◌+◌, ◌-◌, ◌*◌, List, length, sym, ap, ◌∙◌, arith, rules}
use Rattle.header.specs.Header.{bits_of, head_at, alt_in}
use Rattle.header.proofs.HeaderLaws.{alt_lt}
use Rattle.leaf.specs.Leaf.{Leaf, leaf_in}
use Rattle.lists.specs.Lists.{low_word, sib_place}
use Rattle.lists.specs.FullLists.{moved_slots, new_words}
use Rattle.emit.specs.Appended.{start_place}
use Rattle.split.specs.Stores.{words_same, switched_same, split_whole}
use Rattle.split.proofs.write.write_split.Goals as goal

pub overflow_sub-alt : goal.overflow_sub-alt
overflow_sub-alt c = omega (arith, alt_lt (bits_of c.head-head.result), c.alt.ensures)

pub returns-clause-list : goal.returns-clause-list
returns-clause-list c = λ w eh ev.
    let a = c.args in
    let L = leaf_in a.leaf.now in
    let ss = a.moved.now.slots in
    let seven : length ss ≡ 7 = search rules in
    let left = c.old_head-left.result in
    let low : left.low ≡ low_word (bits_of left) = omega arith in
    split_whole w a.block a.new a.entry.key a.entry.value a.list.now _ _ _ _
    (new_words a.up L ss a.entry.key a.entry.value) _ _ _
    (omega arith)
    (ap (λ (M : Leaf). length (moved_slots M)) ev ∙ ap (λ (r : List ℕ). length r) (sym c.requires.1) ∙ seven)
    c.write_new_leaf.ensures
    (words_same w a.block a.new a.entry.key a.entry.value a.up L ss ev c.requires.1 c.requires.2)
    (rw c.from.ensures at c.put_step.ensures)
    (rw c.from-place.ensures (ap (λ (i : ℕ). 32 * a.block + i) c.sibling_word.ensures
    ∙ ap (λ (i : ℕ). sib_place a.block (1 - i)) (c.alt.ensures ∙ ap alt_in (c.head-head.ensures ∙ sym eh))))
    c.append_backs.ensures
    c.append_store.ensures
    (rw c.from-place.ensures (start_place a.block))
    (low
    ∙ ap low_word (rw c.head-head.ensures at c.old_head-left.ensures
    ∙ switched_same w a.block a.new a.entry.key a.entry.value (head_at a.leaf.now 0) L ss eh ev c.requires.1))
