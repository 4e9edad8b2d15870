-- The split, at the level of words: the 32 words of the new leaf, the old leaf's inactive sibling, and its word 0.
-- The image after them is sound, with the right map.
use Rattle.std.specs.Prelude.{◌≡◌, refl, false, cond, List, [], ◌∷◌, ◌++◌, ◌≢◌, ltb, eqb, length}
use Rattle.std.proofs.Common.{sym, ap₂, ◌∙◌}
use Rattle.std.proofs.Math.Path.{ap}
use Prim.Native.Nat.{ℕ, ◌+◌, ◌-◌, ◌*◌, ◌/◌, ◌%◌, ◌^◌, ◌≤◌, ◌<◌}
use Rattle.std.proofs.Math.Nat.{div-add-mod'}
use native.Mathlib.Omega.{arith}
use borrow.Author.Tests.{lt-ltb, le-ltb, eq-eqb, ne_eqb}
use Rattle.words.specs.Update.{upd}
use Rattle.header.specs.Header.{whole, is_locked, alt_in, fingerprint_in, flipped, cleared_all}
use Rattle.header.proofs.HeaderLaws.{alt_lt}
use Rattle.leaf.specs.Leaf.{Leaf, Taken, In, occ_in, head_of, leaf_of, block, view}
use Rattle.leaf.proofs.LeafLaws.{occ_slot}
use Rattle.leaf.specs.Search.{count}
use Rattle.image.specs.Chain.{All, Sound}
use Rattle.image.specs.ChainLaws.{Good}
use Rattle.image.proofs.ChainLaws.{all_split, all_map}
use Rattle.image.proofs.Stretch.{Changed, part_good}
use Rattle.image.specs.Target.{Target}
use Rattle.image.proofs.Same.{Same, same_eq, same_trans}
use Rattle.image.proofs.Edits.{insert, Absent}
use Rattle.image.proofs.CountLaws.{count_slots, count_insert}
use Rattle.image.proofs.Order.{Upper}
use Rattle.image.proofs.Parting.{empty_leaf, thin, gather, Parts, upper_parts, parts_absent, parts_count}
use Rattle.image.proofs.Parting.{thin_rest, gather_vacant, gather_rest, gathered, gathered_all}
use Rattle.image.proofs.Calls.{split_sound, split_put, split_target, Divided}
use Rattle.image.proofs.Stored.{Stored, stored_of, read_of, with_head, insert_s, gather_s, empty_s, read_insert, read_thin}
use Rattle.image.proofs.Stored.{alt_clear_all, read_gather, read_empty}
use Rattle.image.proofs.Blocks.{view_slot, Only, only_refl, only_store, only_view, Relinked, leaf_switch}

-- ---- the 32 words of a stored leaf

unfoldable pub word_of : Stored → ℕ → ℕ
word_of R i =
    cond (eqb i 0) (R.head % 2 ^ 64)
    (cond (eqb i 1) (R.head / 2 ^ 64)
    (cond (ltb i 30) (cond (eqb (i % 2) 0) (R.key ((i - 2) / 2)) (R.val ((i - 2) / 2))) (R.sib (i - 30))))

module _ (R : Stored) where
  word_head : whole (word_of R 0) (word_of R 1) ≡ R.head
  unfolding word_of
  word_head = div-add-mod' R.head (2 ^ 64)

  word_key : (s : ℕ) → s < 14 → word_of R (2 + 2 * s) ≡ R.key s
  unfolding word_of
  word_key s l =
      let e : (2 + 2 * s - 2) / 2 ≡ s = omega arith in
      rw (
        ne_eqb (2 + 2 * s) 0 (omega arith),
        ne_eqb (2 + 2 * s) 1 (omega arith),
        lt-ltb (2 + 2 * s) 30 (omega arith),
        eq-eqb ((2 + 2 * s) % 2) 0 (omega arith),
        e,
      )

  word_val : (s : ℕ) → s < 14 → word_of R (3 + 2 * s) ≡ R.val s
  unfolding word_of
  word_val s l =
      let e : (3 + 2 * s - 2) / 2 ≡ s = omega arith in
      rw (
        ne_eqb (3 + 2 * s) 0 (omega arith),
        ne_eqb (3 + 2 * s) 1 (omega arith),
        lt-ltb (3 + 2 * s) 30 (omega arith),
        ne_eqb ((3 + 2 * s) % 2) 0 (omega arith),
        e,
      )

  word_sib : (a : ℕ) → word_of R (30 + a) ≡ R.sib a
  unfolding word_of
  word_sib a =
      let e : 30 + a - 30 ≡ a = omega arith in
      rw (ne_eqb (30 + a) 0 (omega arith), ne_eqb (30 + a) 1 (omega arith), le-ltb (30 + a) 30 (omega arith), e)

-- a block that has them
pub words_same : (g : ℕ → ℕ) (R : Stored) → ((i : ℕ) → i < 32 → g i ≡ word_of R i) → Same (read_of R) (leaf_of g)
words_same g R h = record {
  lock = ap is_locked head;
  next =
      ap (λ (x : ℕ). g (30 + alt_in x)) head
      ∙ h (30 + alt_in R.head) (omega (arith, alt_lt R.head))
      ∙ word_sib R (alt_in R.head);
  slots = record {
    size = refl;
    occ = λ s. ap (λ (x : ℕ). occ_in x s) head;
    fp = λ s t. ap (λ (x : ℕ). fingerprint_in x s) head;
    key = λ s t. let l : s < 14 = occ_slot R.head s t in h (2 + 2 * s) (omega arith) ∙ word_key R s l;
    val = λ s t. let l : s < 14 = occ_slot R.head s t in h (3 + 2 * s) (omega arith) ∙ word_val R s l;
  };
}
  where
    head : head_of g ≡ R.head
    head = ap₂ whole (h 0 (omega arith)) (h 1 (omega arith)) ∙ word_head R

-- m is w but for block c, which has the words f 0, .. , f 31
pub record Placed (w m : ℕ → ℕ) (c : ℕ) (f : ℕ → ℕ) : Type 0 where
  pub here : (i : ℕ) → i < 32 → block m c i ≡ f i
  pub elsewhere : (d : ℕ) → d ≢ c → block m d ≡ block w d

-- ---- what is stored: m has the new leaf in block c

abbrev pub split_image : (ℕ → ℕ) → (ℕ → ℕ) → ℕ → ℕ → ℕ → ℕ → ℕ
split_image w m b c low = upd (upd m (32 * b + (30 + (1 - alt_in (head_of (block w b))))) c) (32 * b + 0) low

-- the new leaf: the entries of the slots ss in the slots from t on, the old active sibling, all else zero
abbrev pub new_leaf : (ℕ → ℕ) → ℕ → ℕ → List ℕ → Stored
new_leaf w b t ss = gather_s (view w b).key (view w b).val (empty_s (view w b).next) t ss

-- the two leaves as edits of the old one
abbrev pub old_leaf : (ℕ → ℕ) → ℕ → List ℕ → Leaf
old_leaf w b ss = thin (view w b) ss

abbrev pub moved_leaf : (ℕ → ℕ) → ℕ → ℕ → List ℕ → Leaf
moved_leaf w b t ss = gather (view w b).key (view w b).val (empty_leaf 14 (view w b).next) t ss

module _ (w m : ℕ → ℕ) (b c low : ℕ) (R : Stored) (placed : Placed w m c (word_of R)) (apart : b ≢ c) where
  split_only : Only m (split_image w m b c low) b (upd (upd (block m b) (30 + (1 - alt_in (head_of (block w b)))) c) 0 low)
  split_only =
      only_store (only_store (only_refl m b) (30 + (1 - alt_in (head_of (block w b)))) c (omega arith)) 0 low (omega arith)

  pub split_others : (d : ℕ) → d ≢ b → d ≢ c → Same (view w d) (view (split_image w m b c low) d)
  unfolding view
  split_others d nb nc =
      same_eq (view w d) (view (split_image w m b c low) d)
      (ap leaf_of (split_only.elsewhere d nb ∙ placed.elsewhere d nc))

  pub split_new : Same (read_of R) (view (split_image w m b c low) c)
  unfolding view
  split_new =
      words_same (block (split_image w m b c low) c) R
      (λ i l. ap (λ (f : ℕ → ℕ). f i) (split_only.elsewhere c (λ e. apart (sym e))) ∙ placed.here i l)

  pub split_old : (h : ℕ) → whole low (block w b 1) ≡ flipped h → alt_in h ≡ alt_in (head_of (block w b))
      → Relinked (read_of (with_head (stored_of (block w b)) h)) c (view (split_image w m b c low) b)
  unfolding view
  split_old h e f =
      rw (only_view split_only, placed.elsewhere b apart) (leaf_switch (block w b) h c low e f)

-- ---- the section: the entries of the slots ss, with the keys from lo on, go from block b to the slots from t on of block c

pub record Splits (w : ℕ → ℕ) (N : ℕ) (xs : List ℕ) (b c : ℕ) (ys : List ℕ) (lo : ℕ) (ss : List ℕ) (t low : ℕ) : Type 0 where
  pub sound : Sound (view w) N (xs ++ (b ∷ ys))
  pub fresh : All (λ x. x ≢ c) (xs ++ (b ∷ ys))
  pub inside : c < N
  pub upper : Upper (view w b) lo ss
  pub fits : t + length ss ≤ 14
  pub some : 0 < length ss
  pub more : length ss < count (view w b)
  pub switch : whole low (block w b 1) ≡ flipped (cleared_all (head_of (block w b)) ss)

module _ {w : ℕ → ℕ} {N : ℕ} {xs : List ℕ} {b c : ℕ} {ys : List ℕ} {lo : ℕ} {ss : List ℕ} {t low : ℕ}
    (P : Splits w N xs b c ys lo ss t low) where
  apart : b ≢ c
  apart = (all_split (λ x. x ≢ c) xs (b ∷ ys) P.fresh).1.0

  good : Good (view w) N b
  good = (part_good (view w) N xs (b ∷ []) ys P.sound).0

  slots : All (λ s. s < 14) ss
  slots = all_map (λ s. Taken (view w b) s) (λ s. s < 14) (view_slot w b) ss P.upper.taken

  pub split_parts : Parts (view w b) (old_leaf w b ss) (moved_leaf w b t ss) (length ss)
  split_parts = upper_parts (view w b) good.right lo ss P.upper 14 (view w b).next t P.fits

  -- every entry with a key from lo on went
  pub split_moved : (s : ℕ) → Taken (view w b) s → lo ≤ (view w b).key s
      → In (moved_leaf w b t ss) ((view w b).key s) ((view w b).val s)
  split_moved = gathered_all (view w b) good.right lo ss P.upper 14 (view w b).next t P.fits

  new_is : read_of (new_leaf w b t ss) ≡ moved_leaf w b t ss
  new_is =
      read_gather (view w b).key (view w b).val ss (empty_s (view w b).next) t P.fits
      ∙ ap (λ (L : Leaf). gather (view w b).key (view w b).val L t ss) (read_empty (view w b).next)

  new_rest : ((moved_leaf w b t ss).size ≡ 14) × ((moved_leaf w b t ss).lock ≡ false)
      × ((moved_leaf w b t ss).next ≡ (view w b).next)
  new_rest = gather_rest (view w b).key (view w b).val ss (empty_leaf 14 (view w b).next) t

  -- whatever the new leaf R is
  module _ (R : Stored) (m : ℕ → ℕ) (placed : Placed w m c (word_of R)) where
    pub split_old_leaf : Relinked (old_leaf w b ss) c (view (split_image w m b c low) b)
    unfolding view
    split_old_leaf =
        rw (← (read_thin ss (stored_of (block w b)) slots))
        (split_old w m b c low R placed apart (cleared_all (head_of (block w b)) ss) P.switch
        (alt_clear_all ss (head_of (block w b)) slots))

    old_lock : (view (split_image w m b c low) b).lock ≡ false
    old_lock = split_old_leaf.lock ∙ (thin_rest ss (view w b)).0 ∙ good.unlocked

    -- the image is so divided, where the new leaf's lock and sibling are those of the moved one
    divided : (view (split_image w m b c low) c).lock ≡ (moved_leaf w b t ss).lock
        → (view (split_image w m b c low) c).next ≡ (moved_leaf w b t ss).next
        → Divided (view w) (view (split_image w m b c low)) N xs b c ys (old_leaf w b ss) (moved_leaf w b t ss) (length ss)
    divided lock next = record {
      sound = P.sound;
      fresh = P.fresh;
      others = split_others w m b c low R placed apart;
      parts = split_parts;
      old = split_old_leaf.slots;
      inside = P.inside;
      some = P.some;
      more = P.more;
      lock_b = old_lock;
      next_b = split_old_leaf.next;
      lock_c = lock ∙ new_rest.1;
      next_c = next ∙ new_rest.2;
    }

    pub split_old_count : count (view (split_image w m b c low) b) + length ss ≡ count (view w b)
    split_old_count =
        parts_count (view w b) (old_leaf w b ss) (moved_leaf w b t ss) (view (split_image w m b c low) b) (length ss)
        split_parts
        split_old_leaf.slots

  -- ---- the map stays

  module _ (m : ℕ → ℕ) (placed : Placed w m c (word_of (new_leaf w b t ss))) where
    pub split_new_leaf : Same (moved_leaf w b t ss) (view (split_image w m b c low) c)
    split_new_leaf = same_trans (same_eq _ _ new_is) (split_new w m b c low (new_leaf w b t ss) placed apart)

    parted : Divided (view w) (view (split_image w m b c low)) N xs b c ys (old_leaf w b ss) (moved_leaf w b t ss) (length ss)
    parted = divided (new_leaf w b t ss) m placed split_new_leaf.lock split_new_leaf.next

    pub split_words : (k v : ℕ) → In (view w b) k v
        → Changed (view w) (view (split_image w m b c low)) N (xs ++ (b ∷ ys)) (xs ++ (b ∷ c ∷ ys)) k (In (view w b) k)
    split_words k v i = split_sound parted k v i split_new_leaf.slots

    pub split_new_count : count (view (split_image w m b c low) c) ≡ length ss
    split_new_count = count_slots split_new_leaf.slots ∙ split_parts.new

    -- a key below all that went: its target stays, and lacks it still
    pub split_room : (k : ℕ) → k < lo → Target (view w) b ys k → Absent (view w b) k
        → Target (view (split_image w m b c low)) b (c ∷ ys) k × Absent (view (split_image w m b c low) b) k
    split_room k l target absent = (
      split_target parted split_new_leaf.slots k
          (λ i u g. omega (arith, gathered (view w b) good.right lo ss P.upper 14 (view w b).next t P.fits i u g))
          target,
      parts_absent split_parts parted.old k absent,
    )

  -- ---- the new entry is in slot q of the new leaf

  module _ (k v : ℕ) (target : Target (view w) b ys k) (absent : Absent (view w b) k) (q : ℕ) (slot : q < t) (m : ℕ → ℕ)
      (placed : Placed w m c (word_of (insert_s (new_leaf w b t ss) q k v))) where
    put_new : Same (insert (moved_leaf w b t ss) q k v) (view (split_image w m b c low) c)
    put_new =
        same_trans
        (same_eq (insert (moved_leaf w b t ss) q k v) (read_of (insert_s (new_leaf w b t ss) q k v))
        (read_insert (new_leaf w b t ss) q (omega (arith, P.fits)) k v ∙ ap (λ (L : Leaf). insert L q k v) new_is))
        (split_new w m b c low (insert_s (new_leaf w b t ss) q k v) placed apart)

    room : q < (moved_leaf w b t ss).size
    room = rw new_rest.0 (omega arith)

    free : (moved_leaf w b t ss).occ q ≡ false
    free = gather_vacant (view w b).key (view w b).val ss (empty_leaf 14 (view w b).next) t q slot

    pub split_put_words : (i u : ℕ) → In (moved_leaf w b t ss) i u → i < k
        → Changed (view w) (view (split_image w m b c low)) N (xs ++ (b ∷ ys)) (xs ++ (b ∷ c ∷ ys)) k (λ z. z ≡ v)
    split_put_words i u g l =
        split_put (divided (insert_s (new_leaf w b t ss) q k v) m placed put_new.lock put_new.next) k v target absent i u g l q
        room
        free
        put_new.slots

    pub split_put_count : count (view (split_image w m b c low) c) ≡ length ss + 1
    split_put_count =
        omega (
          arith,
          count_slots put_new.slots,
          count_insert (moved_leaf w b t ss) q k v room free,
          split_parts.new,
        )
