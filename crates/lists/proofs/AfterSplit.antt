-- The plain put that follows a split, as code makes it: by the switched header and the entries as they were.
use Prim.Native.Nat.{ℕ, suc, ◌+◌, ◌*◌, ◌≤◌, ◌<◌}
use Rattle.std.proofs.Math.Decide.{dec_lt}
use Rattle.std.proofs.Common.{arith, sym, ap₂, ◌∙◌, lt-ltb, le-ltb}
use mathlib.Core.List.{List, [], ◌∷◌}
use Rattle.std.specs.Prelude.{◌≡◌, refl, ◌≢◌}
use Rattle.std.proofs.Math.Path.{ap}
use Rattle.words.specs.Update.{upd, upd_same, upd_other}
use Rattle.header.specs.Header.{whole, marked, cleared, fingerprint_of}
use Rattle.leaf.specs.Leaf.{Leaf, Right, occ_in, head_of, block, view}
use Rattle.leaf.proofs.LeafLaws.{block_store}
use Rattle.leaf.specs.Search.{lowest_vacant, count}
use Rattle.leaf.proofs.SearchLaws.{vacant_at}
use Rattle.steps.specs.Lists.{run_all}
use Rattle.steps.proofs.Lists.{run_all_lem, run_all_append}
use Rattle.steps.specs.Stores.{stores_from}
use Rattle.image.specs.Copies.{Copy}
use Rattle.image.proofs.EditMaps.{Fits}
use Rattle.image.proofs.WordSplit.{word_of}
use Rattle.lists.specs.Lists.{word_place, low_word, head_in, last_beside, copies_beside}
use Rattle.lists.specs.Lists.{copy_steps, copied_head, filled_head, far_put, put_at, put_found, plain_put}
use Rattle.lists.specs.FullLists.{moved_slots, goes_up, new_words, link_word, link_store, switched_head}
use Rattle.lists.specs.FullLists.{split_stores, split_backs, split_list, after}
use Rattle.lists.specs.Served.{Small}
use Rattle.lists.proofs.Beside.{beside_fit}
use Rattle.lists.proofs.Parts.{parts_run}
use Rattle.lists.proofs.Sizes.{by_slot_lem, new_length}
use Rattle.lists.proofs.NewLeaf.{placed_stores, new_word, new_stored}
use Rattle.lists.proofs.FullPut.{Moved, moved, switched_whole}

-- ---- a plain put reads of the leaf only the entries of slots 0 to 2

module _ (h : ℕ) (L M : Leaf) (same : (j : ℕ) → j < 3 → (M.key j ≡ L.key j) × (M.val j ≡ L.val j)) (b : ℕ) where
  steps_cong : (cs : List Copy) (i t e : ℕ) → Fits (occ_in h) i t e cs → copy_steps M b cs ≡ copy_steps L b cs
  steps_cong [] i t e f = refl
  steps_cong (c ∷ cs) i t e f =
      let y = same c.from f.1 in
      rw (y.0, y.1, steps_cong cs (suc c.from) (suc c.to) e f.5)

  head_cong : (cs : List Copy) (n i t e : ℕ) → Fits (occ_in h) i t e cs → copied_head M n cs ≡ copied_head L n cs
  head_cong [] n i t e f = refl
  head_cong (c ∷ cs) n i t e f =
      rw (same c.from f.1).0
      (head_cong cs (marked (cleared n c.from) c.to (fingerprint_of (L.key c.from))) (suc c.from) (suc c.to) e f.5)

  module _ (k v : ℕ) where
    far_cong : (s : ℕ) → 3 ≤ s → s < 14 → far_put h M b s k v ≡ far_put h L b s k v
    unfolding far_put filled_head
    far_cong s past slot =
        let f = beside_fit h b s past slot in
        rw (
          steps_cong (copies_beside h s) 0 (suc s) (suc (last_beside s)) f,
          head_cong (copies_beside h s) (marked h s (fingerprint_of k)) 0 (suc s) (suc (last_beside s)) f,
        )

    at_cong : (s : ℕ) → s < 14 → put_at h M b s k v ≡ put_at h L b s k v
    unfolding put_at
    at_cong s slot =
        elim (dec_lt s 3) [
          | yes l ↦ rw (lt-ltb s 3 l)
          | no l ↦ rw (le-ltb s 3 (omega arith)) (far_cong s (omega arith) slot)
        ]

    pub plain_cong : plain_put h M b k v ≡ plain_put h L b k v
    unfolding plain_put
    plain_cong =
        by_slot_lem (λ x. put_found x h M b k v ≡ put_found x h L b k v) (lowest_vacant (occ_in h) 14)
        (λ s e. at_cong s (vacant_at (occ_in h) 14 s e).0)
        (λ e. refl)

-- ---- the old leaf when the split has been run

module _ (w : ℕ → ℕ) (small : Small w) (b c : ℕ) (apart : b ≢ c) (right : Right (view w b))
    (full : count (view w b) ≡ 14) (k v : ℕ) where
  abbrev words : List ℕ
  words = new_words (goes_up (view w b) k) (view w b) (moved_slots (view w b)) k v

  abbrev link : ℕ
  link = link_word w b

  abbrev low : ℕ
  low = low_word (switched_head w b)

  half : Moved (view w b) (moved_slots (view w b))
  half = moved (view w b) right full

  old_block : block (after (split_list w b c k v) w) b ≡ upd (upd (block w b) link c) 0 low
  unfolding split_list
  old_block =
      ap (λ (x : ℕ → ℕ). block x b)
      (sym (run_all_lem upd (split_list w b c k v) w)
      ∙ parts_run (split_stores w b c k v) (split_backs b c) [] (word_place b 0) low upd w (tt, (tt, (tt, (tt, (tt, tt)))))
      ∙ ap (λ (m : ℕ → ℕ). upd m (word_place b 0) low)
      (run_all_append upd (stores_from (word_place c 0) words) (link_store w b c) w))
      ∙ block_store (upd placed (word_place b link) c) b 0 low (omega arith)
      ∙ ap (λ (g : ℕ → ℕ). upd g 0 low)
      (block_store placed b link c (omega arith)
      ∙ ap (λ (g : ℕ → ℕ). upd g link c)
      ((placed_stores w c (word_of (new_stored (goes_up (view w b) k) w b (moved_slots (view w b)) k v)) words
      (new_length (goes_up (view w b) k) (view w b) (moved_slots (view w b)) k v ∙ omega (arith, half.seven))
      (new_word (goes_up (view w b) k) w b (moved_slots (view w b)) k v half.seven)
      ).elsewhere b apart))
    where
      placed : ℕ → ℕ
      placed = run_all upd (stores_from (word_place c 0) words) w

  -- its header is the switched one, ..
  pub head_after : head_in (after (split_list w b c k v) w) b ≡ switched_head w b
  head_after =
      ap head_of old_block
      ∙ ap₂ whole (upd_same (upd (block w b) link c) 0 low)
      (upd_other (upd (block w b) link c) 0 low 1 (omega arith) ∙ upd_other (block w b) link c 1 (omega arith))
      ∙ switched_whole w small b half

  -- .. and its entries are those before
  entries_after : (i : ℕ) → 0 < i → i < 30 → block (after (split_list w b c k v) w) b i ≡ block w b i
  entries_after i some l =
      ap (λ (g : ℕ → ℕ). g i) old_block ∙ upd_other (upd (block w b) link c) 0 low i (omega arith)
      ∙ upd_other (block w b) link c i (omega arith)

  pub plain_after : plain_put (head_in (after (split_list w b c k v) w) b) (view (after (split_list w b c k v) w) b) b k v
      ≡ plain_put (switched_head w b) (view w b) b k v
  unfolding view
  plain_after =
      ap (λ (h : ℕ). plain_put h (view (after (split_list w b c k v) w) b) b k v) head_after
      ∙ plain_cong (switched_head w b) (view w b) (view (after (split_list w b c k v) w) b)
      (λ j l. (entries_after (2 + 2 * j) (omega arith) (omega arith), entries_after (3 + 2 * j) (omega arith) (omega arith)))
      b
      k
      v
