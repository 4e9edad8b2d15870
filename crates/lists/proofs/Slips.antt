-- Where a slip would show: document 01's cases, computed, at the cuts that each slip of its list would not survive. At a cut
-- all stores to line 0 have arrived, and of the other lines' stores those that are settled.
use Rattle.std.specs.Prelude.{ℕ, zero, suc, ◌*◌, true, false, cond, List, [], ◌∷◌, ◌++◌, ◌≡◌, refl, eqb, get_or, set, replicate}
use Rattle.words.specs.Below.{count_below, any_below}
use Rattle.header.specs.Fields.{field, patched}
use Rattle.header.specs.Header.{is_occupied, is_locked, alt_in, fingerprint_in, marked, cleared, flipped, xor_of_bytes, fingerprint_of}
use Rattle.leaf.specs.Leaf.{occ_in, block, view}
use Rattle.leaf.specs.Search.{lowest, lowest_vacant, closest, least_from, count}
use Rattle.steps.specs.declared.Step.{Step}
use Rattle.steps.specs.Model.{line, made, rule01, is_settled, settled, cut}
use Rattle.steps.specs.Encoding.{steps_of}
use Rattle.steps.specs.Lists.{run_all}
use Rattle.image.specs.Map.{Entry}
use Rattle.image.specs.Copies.{copies}
use Rattle.image.specs.Order.{slots_from, slots_of}
use Rattle.image.specs.Entries.{entries_at, entries_of, list_of}
use Rattle.lists.specs.Lists.{unlink_list, clear_list, is_alone, del_list, near_put, copies_beside, filled_head, far_put, put_at, plain_put}
use Rattle.lists.specs.FullLists.{moved_slots, goes_up, split_list, full_put, put_list}

-- an image as the list of its words, here of two blocks
abbrev at : List ℕ → ℕ → ℕ
at ws i = get_or ws i 0

-- the n keys from k on put in order into block 0, each with the value of a hundred times the key
abbrev puts : ℕ → ℕ → List ℕ → List ℕ
puts zero k ws = ws
puts (suc n) k ws = puts n (suc k) (run_all set (put_list (at ws) 0 1 k (100 * k)) ws)

-- the chain as the siblings tell it, and the keys in it
abbrev on_from : ℕ → List ℕ → ℕ → List ℕ
on_from zero ws b = []
on_from (suc n) ws b = elim (eqb b 0) [ true ↦ [] | false ↦ b ∷ on_from n ws (view (at ws) b).next ]

abbrev keys_in : List Entry → List ℕ
keys_in [] = []
keys_in (e ∷ es) = e.key ∷ keys_in es

abbrev keys_of : List ℕ → List ℕ
keys_of ws = keys_in (list_of (view (at ws)) (0 ∷ on_from 2 ws (view (at ws) 0).next))

-- what a cut behind n steps of a list leaves
abbrev left_by : List Step → ℕ → List ℕ → List ℕ
left_by l n ws =
    let s = steps_of l in
    cut set line s (λ u. cond (eqb u 0) (made line s n u) (settled line rule01 s n u)) ws n

abbrev put_keys : List ℕ → ℕ → ℕ → List ℕ
put_keys ws k n = keys_of (left_by (put_list (at ws) 0 1 k (100 * k)) n ws)

abbrev blank : List ℕ
blank = replicate 64 0

-- blank but for the key 1 in block 0 and the key 9 in block 1, which is chained behind it
abbrev two_leaves : List ℕ
two_leaves = set (run_all set (near_put 0 1 0 9 900) (puts 1 1 blank)) 30 1

abbrev up_to14 : List ℕ
up_to14 = 1 ∷ 2 ∷ 3 ∷ 4 ∷ 5 ∷ 6 ∷ 7 ∷ 8 ∷ 9 ∷ 10 ∷ 11 ∷ 12 ∷ 13 ∷ 14 ∷ []

pub record Survived : Type 0 where
  -- "Word 0 stored before word 1, or before the copies are settled": the put of 4, behind its last store but one, and
  -- behind its last
  pub copies_settled : put_keys (puts 3 1 blank) 4 11 ≡ 1 ∷ 2 ∷ 3 ∷ []
  pub copies_there : put_keys (puts 3 1 blank) 4 12 ≡ 1 ∷ 2 ∷ 3 ∷ 4 ∷ []
  -- "A slot taken as free by the copied header only": the put of 0 into the full leaf, behind two steps
  pub nothing_lost : put_keys (puts 14 1 blank) 0 2 ≡ up_to14
  -- "The split's new leaf linked through the active sibling": the put of 15, before the switch and behind it
  pub not_linked_yet : put_keys (puts 14 1 blank) 15 39 ≡ up_to14
  pub linked : put_keys (puts 14 1 blank) 15 40 ≡ up_to14 ++ (15 ∷ [])
  -- del of one of three entries, and of the only one of a second leaf
  pub one_gone : keys_of (left_by (del_list (at (puts 3 1 blank)) 0 0 1) 3 (puts 3 1 blank)) ≡ 1 ∷ 3 ∷ []
  pub leaf_gone : keys_of (left_by (del_list (at two_leaves) 0 1 0) 3 two_leaves) ≡ 1 ∷ []

pub survived : Survived
unfolding put_list put_at near_put far_put copies_beside filled_head moved_slots goes_up split_list plain_put full_put del_list
    unlink_list clear_list is_alone field patched is_occupied is_locked alt_in fingerprint_in marked cleared flipped
    xor_of_bytes fingerprint_of occ_in block view lowest lowest_vacant closest least_from any_below count_below count copies slots_from
    slots_of entries_at entries_of list_of is_settled
survived = record {
  copies_settled = refl;
  copies_there = refl;
  nothing_lost = refl;
  not_linked_yet = refl;
  linked = refl;
  one_gone = refl;
  leaf_gone = refl;
}
