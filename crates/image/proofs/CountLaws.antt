-- How many slots are occupied: what an edit changes, and what the number says.
use Rattle.std.specs.Prelude.{◌≡◌, true, ℕ, suc, ◌<◌}
use Rattle.std.proofs.Common.{sym, ◌∙◌, arith}
use Rattle.std.proofs.Math.Path.{ap}
use Rattle.std.proofs.Math.Bool.{false}
use Rattle.std.proofs.Math.Decide.{ℕ_discrete}
use Rattle.words.specs.Bools.{bit, differ}
use Rattle.words.specs.BelowLaws.{count_none, count_nth, count_cong, count_upd}
use Rattle.leaf.specs.Leaf.{Leaf, Taken, Right}
use Rattle.leaf.specs.Search.{count}
use Rattle.image.specs.Chain.{Filled}
use Rattle.image.proofs.Same.{Slots}
use Rattle.image.proofs.Edits.{erase, insert, erase_right, taken_erase}

pub count_slots : {L M : Leaf} → Slots L M → count M ≡ count L
unfolding count
count_slots {L} {M} S = rw S.size (count_cong M.occ L.occ L.size (λ s h. S.occ s))

module _ (L : Leaf) (r : Right L) where
  pub count_erase : (s : ℕ) → Taken L s → suc (count (erase L s)) ≡ count L
  unfolding count
  count_erase s h = omega (arith, count_upd L.occ s false L.size (r.inside s h), ap bit h)

  pub count_empty : count L ≡ 0 → (s : ℕ) → Taken L s → ⊥
  unfolding count
  count_empty z s t = differ (sym t ∙ count_none L.occ L.size z s (r.inside s t))

  pub filled_count : Filled L → 0 < count L
  filled_count f = elim (ℕ_discrete (count L) 0) [ yes z ↦ absurd (count_empty z f.at f.taken) | no nz ↦ omega arith ]

pub count_insert : (L : Leaf) (s k v : ℕ) → s < L.size → L.occ s ≡ false → count (insert L s k v) ≡ suc (count L)
unfolding count
count_insert L s k v h e = omega (arith, count_upd L.occ s true L.size h, ap bit e)

pub count_filled : (L : Leaf) → 0 < count L → Filled L
unfolding count
count_filled L h =
    let r = count_nth L.occ L.size 0 h in record { at = r.0; taken = r.2 }

-- the only entry
pub count_only : (L : Leaf) → Right L → (s t : ℕ) → count L ≡ 1 → Taken L s → Taken L t → t ≡ s
count_only L r s t e a b =
    elim (ℕ_discrete t s) [
      | yes q ↦ q
      | no ne ↦ let z : count (erase L s) ≡ 0 = omega (arith, count_erase L r s a) in
          absurd (count_empty (erase L s) (erase_right L s r) z t (taken_erase L s t ne b))
    ]
