-- A listing tells at most the 56 entries that the buffers hold.
use Rattle.std.proofs.Common.{◌≤◌, List, ℕ, length, arith, length-take-le, sym, subst}
use Rattle.perform.specs.Perform.{text_of, Written}
use Rattle.perform.specs.ListLaws.{list_rows, list_few}
use Rattle.perform.proofs.reading.do_list.Goals as goal

pub slice_bounds-keys-end : goal.slice_bounds-keys-end
slice_bounds-keys-end c =
    omega (arith, list_few c.args.image.now _ _ _ c.hut_listing-listed.ensures, c.hut_listing-listed.auto.keys)

pub slice_bounds-values-end : goal.slice_bounds-values-end
slice_bounds-values-end c =
    omega (arith, list_few c.args.image.now _ _ _ c.hut_listing-listed.ensures, c.hut_listing-listed.auto.values)

pub slice_bounds-pair_lines-end-2 : goal.slice_bounds-pair_lines-end-2
slice_bounds-pair_lines-end-2 c =
    sym (length-take-le _ _ (omega (arith, list_few c.args.image.now _ _ _ c.hut_listing-listed.ensures, c.hut_listing-listed.auto.keys)))

pub slice_bounds-pair_lines-end-3 : goal.slice_bounds-pair_lines-end-3
slice_bounds-pair_lines-end-3 c =
    sym (length-take-le _ _ (omega (arith, list_few c.args.image.now _ _ _ c.hut_listing-listed.ensures, c.hut_listing-listed.auto.values)))

pub returns-clause-written : goal.returns-clause-written
returns-clause-written c =
    let l = c.args.image.now in
    let told = c.hut_listing-listed.ensures in
    let few : c.hut_listing-listed.result.count ≤ length c.hut_listing-listed.new.keys =
    omega (arith, list_few l _ _ _ told, c.hut_listing-listed.auto.keys) in
    subst (λ (ls : List (List ℕ)). Written c.args.out.now (text_of ls) c.pair_lines.new.buf c.pair_lines.result)
    (list_rows l _ _ _ told (omega arith) few) c.pair_lines.ensures.written
