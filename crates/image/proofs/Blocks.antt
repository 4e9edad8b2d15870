-- What stores in one block of an image do to the leaf that is read there, and that every other leaf stays.
use Rattle.std.specs.Prelude.{◌≡◌, true, false, ◌≢◌, ℕ, ◌+◌, ◌-◌, ◌*◌, ◌<◌}
use Rattle.std.proofs.Math.Path.{refl, ap, fun_ext}
use Rattle.std.proofs.Common.{sym, ap₂, ◌∙◌, arith}
use Rattle.std.proofs.Math.Decide.{ℕ_discrete}
use Rattle.words.specs.Update.{upd, upd_same, upd_other}
use Rattle.header.specs.Header.{whole, is_locked, alt_in, fingerprint_in, marked, cleared, flipped, fingerprint_of}
use Rattle.leaf.specs.Leaf.{Leaf, Taken, Right, occ_in, head_of, leaf_of, block, view}
use Rattle.leaf.proofs.LeafLaws.{occ_slot, block_store, block_store_other}
use Rattle.image.proofs.Same.{Slots, Same, slots_trans, slots_eq, same_eq}
use Rattle.image.proofs.Edits.{erase, insert}
use Rattle.image.proofs.Stored.{Stored, stored_of, read_of, with_head, with_entry, relink, read_erase, read_insert}
use Rattle.image.proofs.Stored.{read_flip}

-- ---- the leaf in a block

-- an occupied slot is one of the 14
module _ (w : ℕ → ℕ) (b : ℕ) where
  pub view_slot : (s : ℕ) → Taken (view w b) s → s < 14
  unfolding view
  view_slot s h = occ_slot (head_of (block w b)) s h

  pub view_size : (view w b).size ≡ 14
  unfolding view
  view_size = refl

-- ---- stores in one block

-- x is w but for block b, which has the words g
pub record Only (w x : ℕ → ℕ) (b : ℕ) (g : ℕ → ℕ) : Type 0 where
  pub here : block x b ≡ g
  pub elsewhere : (c : ℕ) → c ≢ b → block x c ≡ block w c

pub only_refl : (w : ℕ → ℕ) (b : ℕ) → Only w w b (block w b)
only_refl w b = record { here = refl; elsewhere = λ c ne. refl }

pub only_store : {w x : ℕ → ℕ} {b : ℕ} {g : ℕ → ℕ} → Only w x b g → (i v : ℕ) → i < 32
    → Only w (upd x (32 * b + i) v) b (upd g i v)
only_store {w} {x} {b} {g} o i v l = record {
  here = block_store x b i v l ∙ ap (λ (h : ℕ → ℕ). upd h i v) o.here;
  elsewhere = λ c ne. block_store_other x c (32 * b + i) v (λ j m. omega arith) ∙ o.elsewhere c ne;
}

module _ {w x : ℕ → ℕ} {b : ℕ} {g : ℕ → ℕ} (o : Only w x b g) where
  pub only_view : view x b ≡ leaf_of g
  unfolding view
  only_view = ap leaf_of o.here

  pub only_others : (c : ℕ) → c ≢ b → Same (view w c) (view x c)
  unfolding view
  only_others c ne = same_eq (view w c) (view x c) (ap leaf_of (o.elsewhere c ne))

-- ---- a word of a leaf stored

-- a store that meets none of the words f 0, f 1, .., and one that meets f s alone
miss : (g : ℕ → ℕ) (p x : ℕ) (f : ℕ → ℕ) → ((t : ℕ) → f t ≢ p) → ◌≡◌ {A = ℕ → ℕ} (λ t. upd g p x (f t)) (λ t. g (f t))
miss g p x f h = fun_ext (λ t. upd_other g p x (f t) (h t))

meet : (g f : ℕ → ℕ) (s x : ℕ) → ((t : ℕ) → t ≢ s → f t ≢ f s)
    → ◌≡◌ {A = ℕ → ℕ} (λ t. upd g (f s) x (f t)) (upd (λ t. g (f t)) s x)
meet g f s x h = fun_ext (λ t. go t (ℕ_discrete t s))
  where
    go : (t : ℕ) → Dec (t ≡ s) → upd g (f s) x (f t) ≡ upd (λ t. g (f t)) s x t
    go t (yes e) = rw (e, upd_same g (f s) x, upd_same (λ t. g (f t)) s x)
    go t (no ne) = rw (upd_other g (f s) x (f t) (h t ne), upd_other (λ t. g (f t)) s x t ne)

-- the words of the keys, the values and the siblings
abbrev pub key_word : ℕ → ℕ
key_word s = 2 + 2 * s

abbrev pub val_word : ℕ → ℕ
val_word s = 3 + 2 * s

abbrev pub sib_word : ℕ → ℕ
sib_word a = 30 + a

module _ (g : ℕ → ℕ) where
  stored_key : (s k : ℕ) → s < 14
      → stored_of (upd g (2 + 2 * s) k)
      ≡ record { head = head_of g; key = upd (stored_of g).key s k; val = (stored_of g).val; sib = (stored_of g).sib }
  stored_key s k l = λ i. record {
    head = whole (upd_other g (2 + 2 * s) k 0 (omega arith) i) (upd_other g (2 + 2 * s) k 1 (omega arith) i);
    key = meet g key_word s k (λ t. omega arith) i;
    val = miss g (2 + 2 * s) k val_word (λ t. omega arith) i;
    sib = miss g (2 + 2 * s) k sib_word (λ t. omega arith) i;
  }

  stored_val : (s v : ℕ) → s < 14
      → stored_of (upd g (3 + 2 * s) v)
      ≡ record { head = head_of g; key = (stored_of g).key; val = upd (stored_of g).val s v; sib = (stored_of g).sib }
  stored_val s v l = λ i. record {
    head = whole (upd_other g (3 + 2 * s) v 0 (omega arith) i) (upd_other g (3 + 2 * s) v 1 (omega arith) i);
    key = miss g (3 + 2 * s) v key_word (λ t. omega arith) i;
    val = meet g val_word s v (λ t. omega arith) i;
    sib = miss g (3 + 2 * s) v sib_word (λ t. omega arith) i;
  }

  pub stored_low : (x : ℕ) → stored_of (upd g 0 x) ≡ with_head (stored_of g) (whole x (g 1))
  stored_low x = λ i. record {
    head = whole (upd_same g 0 x i) (upd_other g 0 x 1 (omega arith) i);
    key = miss g 0 x key_word (λ t. omega arith) i;
    val = miss g 0 x val_word (λ t. omega arith) i;
    sib = miss g 0 x sib_word (λ t. omega arith) i;
  }

  stored_high : (x : ℕ) → stored_of (upd g 1 x) ≡ with_head (stored_of g) (whole (g 0) x)
  stored_high x = λ i. record {
    head = whole (upd_other g 1 x 0 (omega arith) i) (upd_same g 1 x i);
    key = miss g 1 x key_word (λ t. omega arith) i;
    val = miss g 1 x val_word (λ t. omega arith) i;
    sib = miss g 1 x sib_word (λ t. omega arith) i;
  }

-- ---- an entry, and both words of the header

abbrev pub put_entry : (ℕ → ℕ) → ℕ → ℕ → ℕ → ℕ → ℕ
put_entry g s k v = upd (upd g (2 + 2 * s) k) (3 + 2 * s) v

abbrev pub put_head : (ℕ → ℕ) → ℕ → ℕ → ℕ → ℕ
put_head g low high = upd (upd g 1 high) 0 low

pub stored_entry : (g : ℕ → ℕ) (s k v : ℕ) → s < 14 → stored_of (put_entry g s k v) ≡ with_entry (stored_of g) s k v
stored_entry g s k v l =
    stored_val (upd g (2 + 2 * s) k) s v l
    ∙ ap (λ (R : Stored). record { head = R.head; key = R.key; val = upd R.val s v; sib = R.sib }) (stored_key g s k l)

pub stored_head : (g : ℕ → ℕ) (low high : ℕ) → stored_of (put_head g low high) ≡ with_head (stored_of g) (whole low high)
stored_head g low high =
    stored_low (upd g 1 high) low
    ∙ ap₂ (λ (R : Stored) (h : ℕ). with_head R (whole low h)) (stored_high g high) (upd_same g 1 high)

-- where an entry is stored, the header stays
pub entry_high : (g : ℕ → ℕ) (s k v : ℕ) → put_entry g s k v 1 ≡ g 1
entry_high g s k v =
    upd_other (upd g (2 + 2 * s) k) (3 + 2 * s) v 1 (omega arith) ∙ upd_other g (2 + 2 * s) k 1 (omega arith)

-- ---- the leaf that is then read

-- put into line 0, where the fingerprint is in word 0 too
pub leaf_put : (g : ℕ → ℕ) (s k v low : ℕ) → s < 14 → whole low (g 1) ≡ marked (head_of g) s (fingerprint_of k)
    → leaf_of (upd (put_entry g s k v) 0 low) ≡ insert (leaf_of g) s k v
leaf_put g s k v low l e =
    ap read_of
    (stored_low (put_entry g s k v) low
    ∙ ap₂ (λ (R : Stored) (h : ℕ). with_head R (whole low h)) (stored_entry g s k v l) (entry_high g s k v)
    ∙ ap (with_head (with_entry (stored_of g) s k v)) e)
    ∙ read_insert (stored_of g) s l k v

pub leaf_del : (g : ℕ → ℕ) (s low : ℕ) → s < 14 → whole low (g 1) ≡ cleared (head_of g) s
    → leaf_of (upd g 0 low) ≡ erase (leaf_of g) s
leaf_del g s low l e = ap read_of (stored_low g low ∙ ap (with_head (stored_of g)) e) ∙ read_erase (stored_of g) s l

-- the value alone
abbrev pub with_val : Leaf → ℕ → ℕ → Leaf
with_val L s v = record {
  size = L.size;
  lock = L.lock;
  next = L.next;
  occ = L.occ;
  fp = L.fp;
  key = L.key;
  val = upd L.val s v;
}

pub leaf_set : (g : ℕ → ℕ) (s v : ℕ) → s < 14 → leaf_of (upd g (3 + 2 * s) v) ≡ with_val (leaf_of g) s v
leaf_set g s v l = ap read_of (stored_val g s v l)

-- is as if the entry were taken out and put in again
pub slots_set : (L : Leaf) (s v : ℕ) → Right L → Taken L s → Slots (insert (erase L s) s (L.key s) v) (with_val L s v)
slots_set L s v r h = record {
  size = refl;
  occ = λ t.
      by t (λ t. L.occ t ≡ upd (upd L.occ s false) s true t) (h ∙ sym (upd_same (upd L.occ s false) s true))
      (λ ne. sym (upd_other (upd L.occ s false) s true t ne ∙ upd_other L.occ s false t ne));
  fp = λ t l. by t (λ t. L.fp t ≡ upd L.fp s f t) (r.prints s h ∙ sym (upd_same L.fp s f))
      (λ ne. sym (upd_other L.fp s f t ne));
  key = λ t l. by t (λ t. L.key t ≡ upd L.key s (L.key s) t) (sym (upd_same L.key s (L.key s)))
      (λ ne. sym (upd_other L.key s (L.key s) t ne));
  val = λ t l. refl;
}
  where
    f : ℕ
    f = fingerprint_of (L.key s)

    by : (t : ℕ) (P : ℕ → Type 0) → P s → (t ≢ s → P t) → P t
    by t P a b = elim (ℕ_discrete t s) [ yes e ↦ rw e a | no ne ↦ b ne ]

-- ---- the siblings

-- words that agree but for the siblings
words_slots : (g h : ℕ → ℕ) → ((i : ℕ) → i < 30 → h i ≡ g i) → Slots (leaf_of g) (leaf_of h)
words_slots g h e = record {
  size = refl;
  occ = λ s. ap (λ (x : ℕ). occ_in x s) head;
  fp = λ s t. ap (λ (x : ℕ). fingerprint_in x s) head;
  key = λ s t. e (2 + 2 * s) (omega (arith, occ_slot (head_of g) s t));
  val = λ s t. e (3 + 2 * s) (omega (arith, occ_slot (head_of g) s t));
}
  where
    head : head_of h ≡ head_of g
    head = ap₂ whole (e 0 (omega arith)) (e 1 (omega arith))

-- a leaf with another active sibling
pub record Relinked (L : Leaf) (c : ℕ) (M : Leaf) : Type 0 where
  pub slots : Slots L M
  pub lock : M.lock ≡ L.lock
  pub next : M.next ≡ c

-- the active sibling stored
pub leaf_relink : (g : ℕ → ℕ) (c : ℕ) → Relinked (leaf_of g) c (leaf_of (upd g (30 + alt_in (head_of g)) c))
leaf_relink g c = record {
  slots = words_slots g h low;
  lock = ap is_locked head;
  next = ap (λ (x : ℕ). h (30 + alt_in x)) head ∙ upd_same g (30 + alt_in (head_of g)) c;
}
  where
    h : ℕ → ℕ
    h = upd g (30 + alt_in (head_of g)) c

    low : (i : ℕ) → i < 30 → h i ≡ g i
    low i l = upd_other g (30 + alt_in (head_of g)) c i (omega arith)

    head : head_of h ≡ head_of g
    head = ap₂ whole (low 0 (omega arith)) (low 1 (omega arith))

-- the inactive sibling stored, and then the header h with alt flipped: as the leaf with the header h, but for its
-- sibling
pub leaf_switch : (g : ℕ → ℕ) (h c low : ℕ) → whole low (g 1) ≡ flipped h → alt_in h ≡ alt_in (head_of g)
    → Relinked (read_of (with_head (stored_of g) h)) c (leaf_of (upd (upd g (30 + (1 - alt_in (head_of g))) c) 0 low))
leaf_switch g h c low e f = record {
  slots = slots_trans mid (slots_trans (slots_relink (read_of (with_head (stored_of x) h)) n) (slots_eq _ _ read));
  lock = ap (λ (L : Leaf). L.lock) read;
  next = ap (λ (L : Leaf). L.next) read ∙ rw f (upd_same g (30 + (1 - alt_in (head_of g))) c);
}
  where
    x : ℕ → ℕ
    x = upd g (30 + (1 - alt_in (head_of g))) c

    n : ℕ
    n = x (30 + (1 - alt_in h))

    high : x 1 ≡ g 1
    high = upd_other g (30 + (1 - alt_in (head_of g))) c 1 (omega arith)

    read : leaf_of (upd x 0 low) ≡ relink (read_of (with_head (stored_of x) h)) (x (30 + (1 - alt_in h)))
    read =
        ap read_of (stored_low x low ∙ ap (with_head (stored_of x)) (ap (whole low) high ∙ e))
        ∙ read_flip (with_head (stored_of x) h)

    mid : Slots (read_of (with_head (stored_of g) h)) (read_of (with_head (stored_of x) h))
    mid = record {
      size = refl;
      occ = λ s. refl;
      fp = λ s t. refl;
      key = λ s t. upd_other g (30 + (1 - alt_in (head_of g))) c (2 + 2 * s) (omega (arith, occ_slot h s t));
      val = λ s t. upd_other g (30 + (1 - alt_in (head_of g))) c (3 + 2 * s) (omega (arith, occ_slot h s t));
    }

    slots_relink : (L : Leaf) (n : ℕ) → Slots L (relink L n)
    slots_relink L n = record { size = refl; occ = λ s. refl; fp = λ s t. refl; key = λ s t. refl; val = λ s t. refl }
