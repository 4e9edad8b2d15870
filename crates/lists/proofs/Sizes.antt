-- How long the lists are: set and del 3 steps, a plain put 5 or at most 14, the split 42, a put at most 56; and their
-- line writes: 1, 1 or 2, 6, at most 8.
use Rattle.std.specs.Prelude.{ℕ, suc, ◌+◌, ◌*◌, ◌≤◌, ◌<◌, Bool, cond, ◌≡◌, refl, length, Option, Some, None}
use Rattle.std.proofs.Math.Decide.{dec_lt}
use native.Mathlib.Omega.{arith}
use Rattle.std.proofs.Math.Bool.{true, false}
use mathlib.Core.List.{List, [], ◌∷◌}
use Rattle.std.proofs.Common.{◌∙◌, length-drop, lt-ltb, le-ltb}
use Rattle.std.proofs.Math.ListN.{length-append}
use Rattle.words.specs.Bools.{by_test}
use Rattle.words.specs.Below.{count_below}
use Rattle.leaf.specs.Leaf.{Leaf, occ_in, view}
use Rattle.leaf.specs.Search.{lowest_vacant}
use Rattle.leaf.proofs.SearchLaws.{vacant_at}
use Rattle.steps.specs.Model.{is_line_write, is_word_write}
use Rattle.steps.specs.declared.Step.TheVariants.{Store as store}
use Rattle.steps.specs.Lists.{Each}
use Rattle.steps.proofs.Lists.{each_append}
use Rattle.steps.specs.Stores.{stores_from}
use Rattle.steps.proofs.Stores.{stores_length}
use Rattle.steps.specs.Shapes.{two_parts}
use Rattle.image.specs.Copies.{Copy}
use Rattle.image.specs.Order.{slots_from, slots_of}
use Rattle.image.proofs.Order.{slots_within}
use Rattle.image.proofs.Blocks.{view_size}
use Rattle.lists.specs.Lists.{word_place, low_word, head_in, copy_steps, copies_beside}
use Rattle.lists.specs.Lists.{far_stores, far_backs, set_list, unlink_list, clear_list, is_alone, del_list, near_put}
use Rattle.lists.specs.Lists.{far_put, put_at, put_found, plain_put}
use Rattle.lists.specs.FullLists.{split_stores, split_backs, switched_head, moved_slots, goes_up, new_words}
use Rattle.lists.specs.FullLists.{link_store, split_list, put_below, full_put, after, entry_words, put_into, put_list}
use Rattle.lists.specs.Served.{lines_of, words_of}
use Rattle.lists.proofs.Parts.{total_append, IsStore, stores_lines, stores_words, parts_length, parts_total}
use Rattle.lists.proofs.Beside.{beside_few}

-- by the slot that is found
pub by_slot_lem : (P : Option ℕ → Type 0) (x : Option ℕ) → ((s : ℕ) → x ≡ Some s → P (Some s)) → (x ≡ None → P None) → P x
by_slot_lem P (Some s) f g = f s refl
by_slot_lem P None f g = g refl

-- ---- set and del

pub set_size : (b s v : ℕ) → (length (set_list b s v) ≡ 3) × (lines_of (set_list b s v) ≡ 1)
unfolding set_list count_below
set_size b s v = (refl, refl)

pub del_size : (w : ℕ → ℕ) (p b s : ℕ) → (length (del_list w p b s) ≡ 3) × (lines_of (del_list w p b s) ≡ 1)
unfolding del_list unlink_list clear_list count_below
del_size w p b s =
    by_test
    (λ t. (length (cond t (unlink_list w p b) (clear_list w b s)) ≡ 3) × (lines_of (cond t (unlink_list w p b) (clear_list w b s)) ≡ 1))
    (is_alone w b)
    (λ e. (refl, refl))
    (λ e. (refl, refl))

-- ---- plain put

pub near_size : (h b s k v : ℕ) → (length (near_put h b s k v) ≡ 5) × (lines_of (near_put h b s k v) ≡ 1)
unfolding near_put count_below
near_size h b s k v = (refl, refl)

pub near_words : (h b s k v : ℕ) → words_of (near_put h b s k v) ≡ 3
unfolding near_put count_below
near_words h b s k v = refl

copies_stores : (L : Leaf) (b : ℕ) (cs : List Copy) → Each IsStore (copy_steps L b cs)
copies_stores L b [] = tt
copies_stores L b (c ∷ cs) = (tt, (tt, copies_stores L b cs))

module _ (h : ℕ) (L : Leaf) (b s k v : ℕ) where
  far_any : (q x p y : ℕ) → 3 ≤ s → s < 14
      → length (two_parts (far_stores h L b s k v) (far_backs b s) (store q x ∷ []) p y) ≤ 14
  far_any q x p y past slot =
      omega (arith, parts_length (far_stores h L b s k v) (far_backs b s) (store q x ∷ []) p y, beside_few h b s L past slot)

  lines_any : (q x p y : ℕ) → lines_of (two_parts (far_stores h L b s k v) (far_backs b s) (store q x ∷ []) p y) ≡ 2
  unfolding count_below
  lines_any q x p y =
      parts_total (far_stores h L b s k v) (far_backs b s) (store q x ∷ []) p y is_line_write
      ∙ omega (arith, stores_lines (far_stores h L b s k v) (tt, (tt, copies_stores L b (copies_beside h s))))

  words_any : (q x p y : ℕ)
      → let l = two_parts (far_stores h L b s k v) (far_backs b s) (store q x ∷ []) p y in (words_of l + 4 ≡ length l) × (8 ≤ length l)
  unfolding count_below
  words_any q x p y =
      let f = far_stores h L b s k v in
      let n = parts_length f (far_backs b s) (store q x ∷ []) p y in (
        omega (
          arith,
          n,
          parts_total f (far_backs b s) (store q x ∷ []) p y is_word_write,
          stores_words f (tt, (tt, copies_stores L b (copies_beside h s))),
        ),
        omega (arith, n),
      )

  -- two line writes, two fences, and the rest are word writes
  pub far_words : (words_of (far_put h L b s k v) + 4 ≡ length (far_put h L b s k v)) × (8 ≤ length (far_put h L b s k v))
  unfolding far_put
  far_words = words_any _ _ _ _

  pub far_length : 3 ≤ s → s < 14 → length (far_put h L b s k v) ≤ 14
  unfolding far_put
  far_length = far_any _ _ _ _

  pub far_lines : lines_of (far_put h L b s k v) ≡ 2
  unfolding far_put
  far_lines = lines_any _ _ _ _

  at_size : s < 14 → (length (put_at h L b s k v) ≤ 14) × (lines_of (put_at h L b s k v) ≤ 2)
  unfolding put_at
  at_size slot =
      elim (dec_lt s 3) [
        | yes l ↦ rw (lt-ltb s 3 l) (omega (arith, (near_size h b s k v).0), omega (arith, (near_size h b s k v).1))
        | no l ↦ rw (le-ltb s 3 (omega arith)) (far_length (omega arith) slot, omega (arith, far_lines))
      ]

pub plain_size : (h : ℕ) (L : Leaf) (b k v : ℕ) → (length (plain_put h L b k v) ≤ 14) × (lines_of (plain_put h L b k v) ≤ 2)
unfolding plain_put count_below
plain_size h L b k v =
    by_slot_lem (λ x. (length (put_found x h L b k v) ≤ 14) × (lines_of (put_found x h L b k v) ≤ 2)) (lowest_vacant (occ_in h) 14)
    (λ s e. at_size h L b s k v (vacant_at (occ_in h) 14 s e).0)
    (λ e. (omega arith, omega arith))

-- ---- the split

pub entry_length : (L : Leaf) (ss : List ℕ) → length (entry_words L ss) ≡ 2 * length ss
entry_length L [] = refl
entry_length L (s ∷ ss) = omega (arith, entry_length L ss)

pub new_length : (up : Bool) (L : Leaf) (ss : List ℕ) (k v : ℕ) → length (new_words up L ss k v) ≡ 18 + 2 * length ss
new_length up L ss k v = omega (arith, length-append (entry_words L ss) (L.next ∷ 0 ∷ []), entry_length L ss)

moved_few : (w : ℕ → ℕ) (b : ℕ) → length (moved_slots (view w b)) ≤ 7
unfolding moved_slots slots_of
moved_few w b =
    omega (
      arith,
      length-drop 7 (slots_from (view w b) (view w b).size 0),
      slots_within (view w b) (view w b).size 0,
      view_size w b,
    )

row_stores : (p : ℕ) (vs : List ℕ) → Each IsStore (stores_from p vs)
row_stores p [] = tt
row_stores p (v ∷ vs) = (tt, row_stores (suc p) vs)

module _ (w : ℕ → ℕ) (b c k v : ℕ) where
  abbrev words : List ℕ
  words = new_words (goes_up (view w b) k) (view w b) (moved_slots (view w b)) k v

  -- 42 where seven move
  pub split_length : length (split_list w b c k v) ≡ 28 + 2 * length (moved_slots (view w b))
  unfolding split_list
  split_length =
      omega (
        arith,
        parts_length (split_stores w b c k v) (split_backs b c) [] (word_place b 0) (low_word (switched_head w b)),
        length-append (stores_from (word_place c 0) words) (link_store w b c),
        stores_length (word_place c 0) words,
        new_length (goes_up (view w b) k) (view w b) (moved_slots (view w b)) k v,
      )

  split_stores_lem : Each IsStore (split_stores w b c k v)
  split_stores_lem = each_append IsStore (stores_from (word_place c 0) words) (link_store w b c) (row_stores (word_place c 0) words) (tt, tt)

  pub split_lines : lines_of (split_list w b c k v) ≡ 6
  unfolding split_list count_below
  split_lines =
      parts_total (split_stores w b c k v) (split_backs b c) [] (word_place b 0) (low_word (switched_head w b)) is_line_write
      ∙ omega (
        arith,
        stores_lines (split_stores w b c k v) split_stores_lem,
      )

  -- six line writes, two fences, and the rest are word writes
  pub split_words : words_of (split_list w b c k v) + 8 ≡ length (split_list w b c k v)
  unfolding split_list count_below
  split_words =
      omega (
        arith,
        parts_length (split_stores w b c k v) (split_backs b c) [] (word_place b 0) (low_word (switched_head w b)),
        parts_total (split_stores w b c k v) (split_backs b c) [] (word_place b 0) (low_word (switched_head w b)) is_word_write,
        stores_words (split_stores w b c k v) split_stores_lem,
      )

  below_size : (t : Bool) → (length (put_below t w b c k v) ≤ 14) × (lines_of (put_below t w b c k v) ≤ 2)
  unfolding count_below
  below_size true = (omega arith, omega arith)
  below_size false = let x = after (split_list w b c k v) w in plain_size (head_in x b) (view x b) b k v

  -- "At most 56 steps, 8 of them line writes."
  full_size : (length (full_put w b c k v) ≤ 56) × (lines_of (full_put w b c k v) ≤ 8)
  unfolding full_put
  full_size =
      let r = put_below (goes_up (view w b) k) w b c k v in (
        omega (arith, length-append (split_list w b c k v) r, split_length, moved_few w b, (below_size (goes_up (view w b) k)).0),
        omega (arith, total_append is_line_write (split_list w b c k v) r, split_lines, (below_size (goes_up (view w b) k)).1),
      )

  pub put_size : (length (put_list w b c k v) ≤ 56) × (lines_of (put_list w b c k v) ≤ 8)
  unfolding put_list
  put_size =
      by_slot_lem (λ x. (length (put_into x w b c k v) ≤ 56) × (lines_of (put_into x w b c k v) ≤ 8)) (lowest_vacant (occ_in (head_in w b)) 14)
      (λ s e.
      let y = at_size (head_in w b) (view w b) b s k v (vacant_at (occ_in (head_in w b)) 14 s e).0 in
      (omega (arith, y.0), omega (arith, y.1)))
      (λ e. full_size)
