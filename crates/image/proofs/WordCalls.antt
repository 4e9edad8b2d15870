-- The image after the stores of set, del and a plain put into line 0, at the level of words: sound, with the right map.
use Rattle.std.specs.Prelude.{◌≡◌, false, List, [], ◌∷◌, ◌++◌, ◌⊎◌, ℕ, suc, ◌+◌, ◌*◌, ◌<◌}
use Rattle.std.proofs.Math.Path.{ap}
use Rattle.std.proofs.Common.{◌∙◌, arith}
use Rattle.words.specs.Update.{upd}
use Rattle.header.specs.Header.{whole, alt_in, marked, cleared, fingerprint_of}
use Rattle.header.proofs.HeaderLaws.{alt_lt}
use Rattle.leaf.specs.Leaf.{Leaf, Taken, Right, head_of, block, view}
use Rattle.leaf.specs.Search.{count}
use Rattle.image.specs.Chain.{Sound}
use Rattle.image.proofs.Stretch.{Changed, part_good}
use Rattle.image.specs.Target.{Target}
use Rattle.image.proofs.Same.{Slots, slots_eq}
use Rattle.image.proofs.Edits.{erase, insert, Absent}
use Rattle.image.proofs.CountLaws.{count_slots, count_erase, count_insert}
use Rattle.image.proofs.Calls.{set_sound, del_sound, put_sound, del_unlink}
use Rattle.image.proofs.Blocks.{view_slot, Only, only_refl, only_store, only_view, only_others, put_entry}
use Rattle.image.proofs.Blocks.{with_val, leaf_put, leaf_del, leaf_set, slots_set, Relinked, leaf_relink}

-- what is stored
abbrev pub set_words : (ℕ → ℕ) → ℕ → ℕ → ℕ → ℕ → ℕ
set_words w b s v = upd w (32 * b + (3 + 2 * s)) v

abbrev pub del_words : (ℕ → ℕ) → ℕ → ℕ → ℕ → ℕ
del_words w b low = upd w (32 * b + 0) low

abbrev pub put_words : (ℕ → ℕ) → ℕ → ℕ → ℕ → ℕ → ℕ → ℕ → ℕ
put_words w b s k v low = upd (upd (upd w (32 * b + (2 + 2 * s)) k) (32 * b + (3 + 2 * s)) v) (32 * b + 0) low

abbrev pub unlink_words : (ℕ → ℕ) → ℕ → ℕ → ℕ → ℕ
unlink_words w p b = upd w (32 * p + (30 + alt_in (head_of (block w p)))) (view w b).next

-- ---- one leaf

module _ (w : ℕ → ℕ) (b : ℕ) where
  pub set_only : (s v : ℕ) → s < 14 → Only w (set_words w b s v) b (upd (block w b) (3 + 2 * s) v)
  set_only s v l = only_store (only_refl w b) (3 + 2 * s) v (omega arith)

  pub del_only : (low : ℕ) → Only w (del_words w b low) b (upd (block w b) 0 low)
  del_only low = only_store (only_refl w b) 0 low (omega arith)

  pub put_only : (s k v low : ℕ) → s < 14 → Only w (put_words w b s k v low) b (upd (put_entry (block w b) s k v) 0 low)
  put_only s k v low l =
      let key : Only w (upd w (32 * b + (2 + 2 * s)) k) b (upd (block w b) (2 + 2 * s) k) =
      only_store (only_refl w b) (2 + 2 * s) k (omega arith) in
      only_store (only_store key (3 + 2 * s) v (omega arith)) 0 low (omega arith)

  set_view : (s v : ℕ) → s < 14 → view (set_words w b s v) b ≡ with_val (view w b) s v
  unfolding view
  set_view s v l = only_view (set_only s v l) ∙ leaf_set (block w b) s v l

  pub del_view : (s low : ℕ) → s < 14 → whole low (block w b 1) ≡ cleared (head_of (block w b)) s
      → view (del_words w b low) b ≡ erase (view w b) s
  unfolding view
  del_view s low l e = only_view (del_only low) ∙ leaf_del (block w b) s low l e

  pub put_view : (s k v low : ℕ) → s < 14 → whole low (block w b 1) ≡ marked (head_of (block w b)) s (fingerprint_of k)
      → view (put_words w b s k v low) b ≡ insert (view w b) s k v
  unfolding view
  put_view s k v low l e = only_view (put_only s k v low l) ∙ leaf_put (block w b) s k v low l e

module _ (w : ℕ → ℕ) (N : ℕ) (xs : List ℕ) (b : ℕ) (ys : List ℕ) (S : Sound (view w) N (xs ++ (b ∷ ys))) where
  right : Right (view w b)
  right = (part_good (view w) N xs (b ∷ []) ys S).0.right

  pub set_words_lem : (s v : ℕ) → Taken (view w b) s
      → Changed (view w) (view (set_words w b s v)) N (xs ++ (b ∷ ys)) (xs ++ (b ∷ ys)) ((view w b).key s) (λ u. u ≡ v)
  set_words_lem s v h =
      let l : s < 14 = view_slot w b s h in
      let e : view (set_words w b s v) b ≡ with_val (view w b) s v = set_view w b s v l in
      set_sound (view w) (view (set_words w b s v)) N xs b ys S (only_others (set_only w b s v l)) (ap (λ (L : Leaf). L.lock) e)
      (ap (λ (L : Leaf). L.next) e)
      s
      v
      h
      (rw e (slots_set (view w b) s v right h))

  pub set_count : (s v : ℕ) → Taken (view w b) s → count (view (set_words w b s v) b) ≡ count (view w b)
  unfolding count
  set_count s v h = ap count (set_view w b s v (view_slot w b s h))

  module _ (s low : ℕ) (h : Taken (view w b) s) (head : whole low (block w b 1) ≡ cleared (head_of (block w b)) s) where
    erased : view (del_words w b low) b ≡ erase (view w b) s
    erased = del_view w b s low (view_slot w b s h) head

    pub del_words_lem : (b ≡ 0) ⊎ (1 < count (view w b))
        → Changed (view w) (view (del_words w b low)) N (xs ++ (b ∷ ys)) (xs ++ (b ∷ ys)) ((view w b).key s) (λ u. ⊥)
    del_words_lem more =
        del_sound (view w) (view (del_words w b low)) N xs b ys S (only_others (del_only w b low))
        (ap (λ (L : Leaf). L.lock) erased)
        (ap (λ (L : Leaf). L.next) erased)
        s
        h
        more
        (slots_eq _ _ erased)

    pub del_count : suc (count (view (del_words w b low) b)) ≡ count (view w b)
    del_count = rw erased (count_erase (view w b) right s h)

  module _ (k v : ℕ) (t : Target (view w) b ys k) (absent : Absent (view w b) k) (s : ℕ) (slot : s < 14)
      (vacant : (view w b).occ s ≡ false) (low : ℕ)
      (head : whole low (block w b 1) ≡ marked (head_of (block w b)) s (fingerprint_of k)) where
    put_slots : Slots (insert (view w b) s k v) (view (put_words w b s k v low) b)
    put_slots = slots_eq _ _ (put_view w b s k v low slot head)

    pub put_words_lem : Changed (view w) (view (put_words w b s k v low)) N (xs ++ (b ∷ ys)) (xs ++ (b ∷ ys)) k (λ u. u ≡ v)
    unfolding view
    put_words_lem =
        put_sound (view w) (view (put_words w b s k v low)) N xs b ys S (only_others (put_only w b s k v low slot))
        (ap (λ (L : Leaf). L.lock) (put_view w b s k v low slot head))
        (ap (λ (L : Leaf). L.next) (put_view w b s k v low slot head))
        k
        v
        t
        absent
        s
        slot
        vacant
        put_slots

    pub put_words_count : count (view (put_words w b s k v low) b) ≡ suc (count (view w b))
    unfolding view
    put_words_count = count_slots put_slots ∙ count_insert (view w b) s k v slot vacant

-- ---- del of an only entry: the active sibling of the leaf before

pub unlink_only : (w : ℕ → ℕ) (p b : ℕ)
    → Only w (unlink_words w p b) p (upd (block w p) (30 + alt_in (head_of (block w p))) (view w b).next)
unlink_only w p b =
    let a : alt_in (head_of (block w p)) < 2 = alt_lt (head_of (block w p)) in
    only_store (only_refl w p) (30 + alt_in (head_of (block w p))) (view w b).next (omega arith)

pub unlink_view : (w : ℕ → ℕ) (p b : ℕ) → Relinked (view w p) (view w b).next (view (unlink_words w p b) p)
unfolding view
unlink_view w p b = rw (only_view (unlink_only w p b)) (leaf_relink (block w p) (view w b).next)

pub unlink_words_lem : (w : ℕ → ℕ) (N : ℕ) (xs : List ℕ) (p b : ℕ) (ys : List ℕ) → Sound (view w) N (xs ++ (p ∷ b ∷ ys)) → (s : ℕ)
    → Taken (view w b) s → count (view w b) ≡ 1
    → Changed (view w) (view (unlink_words w p b)) N (xs ++ (p ∷ b ∷ ys)) (xs ++ (p ∷ ys)) ((view w b).key s) (λ u. ⊥)
unlink_words_lem w N xs p b ys S s h one =
    let r : Relinked (view w p) (view w b).next (view (unlink_words w p b) p) = unlink_view w p b in
    del_unlink (view w) (view (unlink_words w p b)) N xs p b ys S (only_others (unlink_only w p b)) s h one r.slots
    r.lock
    r.next
