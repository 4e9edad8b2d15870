use Rattle.std.proofs.Common.{rules, arith, ap, sym, ◌∙◌, refl, ℕ, not}
use Rattle.std.specs.Prelude.{Some, None}
use Rattle.words.specs.Words.{reads}
use Rattle.leaf.specs.Leaf.{occ_in}
use Rattle.leaf.specs.Search.{lowest_vacant}
use Rattle.leaf.proofs.SearchLaws.{lowest_at}
use Rattle.survey.specs.Marks.{blocks_in, is_in}
use Rattle.image.specs.Image.{blocks}
use Rattle.lists.proofs.Put.{none_vacant}
use Rattle.writing.proofs.BlockLaws.{has_leaf, not_some}
use Rattle.writing.proofs.PutLaws.{put_refused, put_by, put_present, put_right, put_met, out_apart}
use Rattle.writing.proofs.put.put.Goals as goal

pub returns-in_err-w : goal.returns-in_err-w
returns-in_err-w c = search (rules, put_refused)

pub returns-then-is_some : goal.returns-then-is_some
returns-then-is_some c =
    put_present c.in_ok-w.ensures c.args.value c.find_slot.result (sym (rw c.page_in-leaf.ensures.leaf at c.find_slot.ensures)) (sym c.is_some.ensures ∙ c.if-is_some.true)

pub put_plain-requires : goal.put_plain-requires
put_plain-requires c = c.in_ok-w.ensures.room

pub returns-in-Some : goal.returns-in-Some
returns-in-Some c =
    let b = c.in_ok-w.w.end.target in
    let slot = sym (rw c.page_in-leaf.ensures.leaf at c.find_slot.ensures) ∙ not_some c.find_slot.result (sym c.is_some.ensures ∙ c.if-is_some.false) in
    let vacant = sym (c.in-Some.ensures ∙ ap (λ (h : ℕ). lowest_vacant (occ_in h) 14) (c.head.ensures ∙ c.page_in-leaf.ensures.head)) in
    rw (c.page_in-leaf.ensures.head, c.page_in-leaf.ensures.leaf) at c.put_plain.ensures
    ∙ put_by c.in_ok-w.ensures c.args.value None (Some c.in-Some.s) _ slot vacant refl

pub returns-in_err-new : goal.returns-in_err-new
returns-in_err-new c =
    let slot = sym (rw c.page_in-leaf.ensures.leaf at c.find_slot.ensures) ∙ not_some c.find_slot.result (sym c.is_some.ensures ∙ c.if-is_some.false) in
    let vacant = sym (ap (λ (h : ℕ). lowest_vacant (occ_in h) 14) (c.head.ensures ∙ c.page_in-leaf.ensures.head)) ∙ sym c.lowest_vacant.ensures ∙ c.in_default.is in
    search (rules, put_by c.in_ok-w.ensures c.args.value None None None slot vacant (sym c.lowest_out.ensures ∙ c.in_err-new.ensures.ok_part))

pub overflow_cast-new : goal.overflow_cast-new
overflow_cast-new c =
    let w = c.in_ok-w.ensures in
    let r = lowest_at (λ b. not (is_in (blocks_in c.in_ok-w.w.met) b)) (blocks c.args.image.now) 0 c.in_ok-new.new
    (sym c.lowest_out.ensures ∙ c.in_ok-new.ensures.ok_part) in
    omega (arith, w.small, r.below)

pub put_full-requires : goal.put_full-requires
put_full-requires c =
    let w = c.in_ok-w.ensures in
    let l = c.args.image.now in
    let leaf = c.page_in-leaf.ensures.leaf in
    let vacant = sym (ap (λ (h : ℕ). lowest_vacant (occ_in h) 14) (c.head.ensures ∙ c.page_in-leaf.ensures.head)) ∙ sym c.lowest_vacant.ensures ∙ c.in_default.is in
    let met = blocks_in c.in_ok-w.w.met in
    let r = lowest_at (λ b. not (is_in met b)) (blocks l) 0 c.in_ok-new.new (sym c.lowest_out.ensures ∙ c.in_ok-new.ensures.ok_part) in (
      w.room,
      rw leaf (put_right w),
      rw leaf (none_vacant (reads l) c.in_ok-w.w.end.target vacant),
      (
        reads l,
        has_leaf l _ _ c.in_ok-w.w.end.target c.in_ok-new.new (λ i. omega (arith, c.type_inv.image i)) c.page_in-leaf.ensures.head leaf
            (out_apart met c.in_ok-w.w.end.target c.in_ok-new.new (put_met w) r.passes),
      ),
    )

pub returns : goal.returns
returns c =
    let w = c.in_ok-w.ensures in
    let l = c.args.image.now in
    let slot = sym (rw c.page_in-leaf.ensures.leaf at c.find_slot.ensures) ∙ not_some c.find_slot.result (sym c.is_some.ensures ∙ c.if-is_some.false) in
    let vacant = sym (ap (λ (h : ℕ). lowest_vacant (occ_in h) 14) (c.head.ensures ∙ c.page_in-leaf.ensures.head)) ∙ sym c.lowest_vacant.ensures ∙ c.in_default.is in
    let met = blocks_in c.in_ok-w.w.met in
    let r = lowest_at (λ b. not (is_in met b)) (blocks l) 0 c.in_ok-new.new (sym c.lowest_out.ensures ∙ c.in_ok-new.ensures.ok_part) in
    c.put_full.ensures (reads l)
    (has_leaf l _ _ c.in_ok-w.w.end.target c.in_ok-new.new (λ i. omega (arith, c.type_inv.image i)) c.page_in-leaf.ensures.head
    c.page_in-leaf.ensures.leaf
    (out_apart met c.in_ok-w.w.end.target c.in_ok-new.new (put_met w) r.passes))
    ∙ put_by w c.args.value None None (Some c.in_ok-new.new) slot vacant
    (sym c.lowest_out.ensures ∙ c.in_ok-new.ensures.ok_part)
