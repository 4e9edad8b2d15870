-- Leaves that agree in all that is used of them: in their slots, and in their lock and active sibling too.
use Rattle.std.specs.Prelude.{◌≡◌, refl, false, ℕ}
use Rattle.std.proofs.Common.{sym, ap, ◌∙◌}
use Rattle.words.specs.Bools.{differ}
use Rattle.header.specs.Header.{fingerprint_of}
use Rattle.leaf.specs.Leaf.{Leaf, Taken, In, Right}
use Rattle.image.specs.Chain.{Filled}

-- M is as L in its slots
pub record Slots (L M : Leaf) : Type 0 where
  pub size : M.size ≡ L.size
  pub occ : (s : ℕ) → M.occ s ≡ L.occ s
  pub fp : (s : ℕ) → Taken L s → M.fp s ≡ L.fp s
  pub key : (s : ℕ) → Taken L s → M.key s ≡ L.key s
  pub val : (s : ℕ) → Taken L s → M.val s ≡ L.val s

-- M is as L in all that is used
pub record Same (L M : Leaf) : Type 0 where
  pub lock : M.lock ≡ L.lock
  pub next : M.next ≡ L.next
  pub slots : Slots L M

module _ {L M : Leaf} (S : Slots L M) where
  pub slots_taken : (s : ℕ) → Taken M s → Taken L s
  slots_taken s t = sym (S.occ s) ∙ t

  pub taken_slots : (s : ℕ) → Taken L s → Taken M s
  taken_slots s t = S.occ s ∙ t

  pub slots_sym : Slots M L
  slots_sym = record {
    size = sym S.size;
    occ = λ s. sym (S.occ s);
    fp = λ s t. sym (S.fp s (slots_taken s t));
    key = λ s t. sym (S.key s (slots_taken s t));
    val = λ s t. sym (S.val s (slots_taken s t));
  }

  pub slots_in : (k v : ℕ) → In L k v → In M k v
  slots_in k v i = record {
    at = i.at;
    taken = taken_slots i.at i.taken;
    key_is = S.key i.at i.taken ∙ i.key_is;
    val_is = S.val i.at i.taken ∙ i.val_is;
  }

  pub slots_filled : Filled L → Filled M
  slots_filled f = record { at = f.at; taken = taken_slots f.at f.taken }

  pub slots_right : Right L → Right M
  slots_right r = record {
    inside = λ s t. rw S.size (r.inside s (slots_taken s t));
    prints = λ s t.
        let u : Taken L s = slots_taken s t in
        S.fp s u ∙ r.prints s u ∙ ap fingerprint_of (sym (S.key s u));
    differ = λ s t a b e.
        let u : Taken L s = slots_taken s a in
        let w : Taken L t = slots_taken t b in
        r.differ s t u w (sym (S.key s u) ∙ e ∙ S.key t w);
  }

pub slots_refl : (L : Leaf) → Slots L L
slots_refl L = record { size = refl; occ = λ s. refl; fp = λ s t. refl; key = λ s t. refl; val = λ s t. refl }

pub slots_trans : {L M P : Leaf} → Slots L M → Slots M P → Slots L P
slots_trans S T = record {
  size = T.size ∙ S.size;
  occ = λ s. T.occ s ∙ S.occ s;
  fp = λ s t. T.fp s (taken_slots S s t) ∙ S.fp s t;
  key = λ s t. T.key s (taken_slots S s t) ∙ S.key s t;
  val = λ s t. T.val s (taken_slots S s t) ∙ S.val s t;
}

pub slots_eq : (L M : Leaf) → M ≡ L → Slots L M
slots_eq L M e = rw e (slots_refl L)

pub same_refl : (L : Leaf) → Same L L
same_refl L = record { lock = refl; next = refl; slots = slots_refl L }

pub same_sym : {L M : Leaf} → Same L M → Same M L
same_sym S = record { lock = sym S.lock; next = sym S.next; slots = slots_sym S.slots }

pub same_trans : {L M P : Leaf} → Same L M → Same M P → Same L P
same_trans S T = record {
  lock = T.lock ∙ S.lock;
  next = T.next ∙ S.next;
  slots = slots_trans S.slots T.slots;
}

pub same_eq : (L M : Leaf) → M ≡ L → Same L M
same_eq L M e = rw e (same_refl L)

-- the entry in an occupied slot
pub own : (L : Leaf) (s : ℕ) → Taken L s → In L (L.key s) (L.val s)
own L s h = record { at = s; taken = h; key_is = refl; val_is = refl }

-- one key has one value
pub in_unique : (L : Leaf) → Right L → (k u v : ℕ) → In L k u → In L k v → u ≡ v
in_unique L r k u v i j =
    sym i.val_is
    ∙ ap L.val (r.differ i.at j.at i.taken j.taken (i.key_is ∙ sym j.key_is))
    ∙ j.val_is

-- an occupied slot is no vacant one
pub taken_vacant : (L : Leaf) (s t : ℕ) → Taken L s → L.occ t ≡ false → s ≡ t → ⊥
taken_vacant L s t h free e = differ (sym h ∙ ap L.occ e ∙ free)
