use Rattle.std.proofs.Common.{[], ◌∷◌, ◌++◌, replicate, refl, arith, ◌≡◌}
use Rattle.lists.specs.Lists.{low_word, high_word}
use Rattle.header.specs.Header.{bits_of}
use Rattle.split.specs.Stores.{stores_more}
use Rattle.split.proofs.write.write_lower.Goals as goal

pub returns : goal.returns
returns c =
    let a = c.args in
    let l = a.list.now in
    let p = a.place in
    let h = a.head in
    let vs = h.low ∷ h.high ∷ [] in
    let low : low_word (bits_of h) ≡ h.low = omega arith in
    let high : high_word (bits_of h) ≡ h.high = omega arith in
    rw (low, high)
    (stores_more l _ _ 0 14 p _ (vs ++ replicate 12 0) (a.last.key ∷ a.last.value ∷ [])
    (stores_more l _ _ 0 2 p _ vs (replicate 12 0) c.append_pair.ensures refl (omega (arith, c.key_word.ensures))
    c.append_zeros.ensures)
    refl (omega (arith, c.key_word-2.ensures)) c.append_pair-2.ensures)
