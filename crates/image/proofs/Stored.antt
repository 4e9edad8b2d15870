-- A leaf as it is stored: its header as one number, its keys, values and two siblings. What marking, clearing and
-- flipping the header, with the entry stored, do to the leaf that is read: its edits.
use Rattle.std.specs.Prelude.{◌≡◌, refl, Bool, true, false, cond, List, [], ◌∷◌, ◌≢◌, ℕ, suc, ◌+◌, ◌-◌, ◌*◌, ◌^◌, ◌≤◌, ◌<◌, eqb, length}
use Rattle.std.proofs.Common.{ap, ◌∙◌, arith}
use Rattle.std.proofs.Math.Path.{fun_ext}
use Rattle.std.proofs.Math.Nat.{zero-div, zero-mod}
use Rattle.std.proofs.Math.Decide.{ℕ_discrete, dec_lt}
use Rattle.words.specs.Update.{upd, upd_same, upd_other}
use Rattle.header.specs.Fields.{field}
use Rattle.header.specs.Header.{is_occupied, is_locked, alt_in, fingerprint_in, marked, cleared, flipped, fingerprint_of, cleared_all}
use Rattle.header.proofs.HeaderLaws.{fingerprint_lt, occupied_marked, occupied_marked_other, locked_marked, alt_marked}
use Rattle.header.proofs.HeaderLaws.{fingerprint_marked, fingerprint_marked_other, occupied_cleared}
use Rattle.header.proofs.HeaderLaws.{occupied_cleared_other}
use Rattle.header.proofs.HeaderLaws.{locked_cleared, alt_cleared, fingerprint_cleared, alt_flipped, occupied_flipped}
use Rattle.header.proofs.HeaderLaws.{locked_flipped, fingerprint_flipped}
use Rattle.leaf.specs.Leaf.{Leaf, occ_in, head_of}
use Rattle.leaf.proofs.LeafLaws.{occ_in_lem, occ_out}
use Rattle.image.specs.Chain.{All}
use Rattle.image.proofs.Edits.{erase, insert}
use Rattle.image.proofs.EditMaps.{move, moves, Fits}
use Rattle.image.specs.Copies.{Copy}
use Rattle.image.proofs.Parting.{empty_leaf, thin, gather}

pub record Stored : Type 0 where
  pub head : ℕ
  pub key : ℕ → ℕ
  pub val : ℕ → ℕ
  pub sib : ℕ → ℕ

-- in the words g; `leaf_of g` is by computing `read_of (stored_of g)`
abbrev pub stored_of : (ℕ → ℕ) → Stored
stored_of g = record { head = head_of g; key = λ s. g (2 + 2 * s); val = λ s. g (3 + 2 * s); sib = λ a. g (30 + a) }

abbrev pub read_of : Stored → Leaf
read_of R = record {
  size = 14;
  lock = is_locked R.head;
  next = R.sib (alt_in R.head);
  occ = occ_in R.head;
  fp = fingerprint_in R.head;
  key = R.key;
  val = R.val;
}

-- ---- the edits

abbrev pub with_head : Stored → ℕ → Stored
with_head R h = record { head = h; key = R.key; val = R.val; sib = R.sib }

abbrev pub with_entry : Stored → ℕ → ℕ → ℕ → Stored
with_entry R s k v = record { head = R.head; key = upd R.key s k; val = upd R.val s v; sib = R.sib }

abbrev pub erase_s : Stored → ℕ → Stored
erase_s R s = with_head R (cleared R.head s)

abbrev pub insert_s : Stored → ℕ → ℕ → ℕ → Stored
insert_s R s k v = with_head (with_entry R s k v) (marked R.head s (fingerprint_of k))

abbrev pub move_s : Stored → ℕ → ℕ → Stored
move_s R s t = insert_s (erase_s R s) t (R.key s) (R.val s)

abbrev pub moves_s : Stored → List Copy → Stored
moves_s R [] = R
moves_s R (c ∷ cs) = moves_s (move_s R c.from c.to) cs

abbrev pub gather_s : (ℕ → ℕ) → (ℕ → ℕ) → Stored → ℕ → List ℕ → Stored
gather_s key val R t [] = R
gather_s key val R t (s ∷ ss) = gather_s key val (insert_s R t (key s) (val s)) (suc t) ss

-- all zero but for sibling 0
abbrev pub empty_s : ℕ → Stored
empty_s n = record { head = 0; key = λ s. 0; val = λ s. 0; sib = λ a. cond (eqb a 0) n 0 }

abbrev pub relink : Leaf → ℕ → Leaf
relink L n = record { size = L.size; lock = L.lock; next = n; occ = L.occ; fp = L.fp; key = L.key; val = L.val }

-- ---- the bits of a header

-- those of h
pub occ_same : (h g : ℕ) → ((t : ℕ) → t < 14 → is_occupied g t ≡ is_occupied h t) → occ_in g ≡ occ_in h
occ_same h g f = fun_ext (λ t. go t (dec_lt t 14))
  where
    go : (t : ℕ) → Dec (t < 14) → occ_in g t ≡ occ_in h t
    go t (yes b) = rw (occ_in_lem g t b, occ_in_lem h t b) (f t b)
    go t (no b) = rw (occ_out g t (omega arith), occ_out h t (omega arith))

-- those of h but at s
occ_upd : (h g s : ℕ) (x : Bool) → s < 14 → is_occupied g s ≡ x
    → ((t : ℕ) → t < 14 → t ≢ s → is_occupied g t ≡ is_occupied h t) → occ_in g ≡ upd (occ_in h) s x
occ_upd h g s x l e f = fun_ext (λ t. go t (ℕ_discrete t s) (dec_lt t 14))
  where
    go : (t : ℕ) → Dec (t ≡ s) → Dec (t < 14) → occ_in g t ≡ upd (occ_in h) s x t
    go t (yes q) d = rw (q, upd_same (occ_in h) s x) (occ_in_lem g s l ∙ e)
    go t (no ne) (yes b) = rw (upd_other (occ_in h) s x t ne, occ_in_lem g t b, occ_in_lem h t b) (f t b ne)
    go t (no ne) (no b) = rw (upd_other (occ_in h) s x t ne, occ_out g t (omega arith), occ_out h t (omega arith))

pub occ_cleared : (h s : ℕ) → s < 14 → occ_in (cleared h s) ≡ upd (occ_in h) s false
occ_cleared h s l = occ_upd h (cleared h s) s false l (occupied_cleared h s l) (λ t b. occupied_cleared_other h s l t)

pub occ_marked : (h s k : ℕ) → s < 14 → occ_in (marked h s (fingerprint_of k)) ≡ upd (occ_in h) s true
occ_marked h s k l =
    occ_upd h (marked h s (fingerprint_of k)) s true l (occupied_marked h s (fingerprint_of k) l (fingerprint_lt k))
    (λ t b. occupied_marked_other h s (fingerprint_of k) l (fingerprint_lt k) t (omega arith))

-- ---- the leaf that is read

module _ (R : Stored) (s : ℕ) (slot : s < 14) where
  pub read_erase : read_of (erase_s R s) ≡ erase (read_of R) s
  read_erase = λ i. record {
    size = 14;
    lock = locked_cleared R.head s slot i;
    next = R.sib (alt_cleared R.head s slot i);
    occ = occ_cleared R.head s slot i;
    fp = fun_ext (fingerprint_cleared R.head s slot) i;
    key = R.key;
    val = R.val;
  }

  pub read_insert : (k v : ℕ) → read_of (insert_s R s k v) ≡ insert (read_of R) s k v
  read_insert k v = λ i. record {
    size = 14;
    lock = locked_marked R.head s f slot small i;
    next = R.sib (alt_marked R.head s f slot small i);
    occ = occ_marked R.head s k slot i;
    fp = fp i;
    key = upd R.key s k;
    val = upd R.val s v;
  }
    where
      f : ℕ
      f = fingerprint_of k

      small : fingerprint_of k < 256
      small = fingerprint_lt k

      fp : fingerprint_in (marked R.head s (fingerprint_of k)) ≡ upd (fingerprint_in R.head) s (fingerprint_of k)
      fp = fun_ext (λ t. go t (ℕ_discrete t s))
        where
          go : (t : ℕ) → Dec (t ≡ s) → fingerprint_in (marked R.head s f) t ≡ upd (fingerprint_in R.head) s f t
          go t (yes q) = rw (q, upd_same (fingerprint_in R.head) s f) (fingerprint_marked R.head s f slot small)
          go t (no ne) =
              rw (upd_other (fingerprint_in R.head) s f t ne) (fingerprint_marked_other R.head s f slot small t ne)

pub read_move : (R : Stored) (s t : ℕ) → s < 14 → t < 14 → read_of (move_s R s t) ≡ move (read_of R) s t
read_move R s t a b =
    read_insert (erase_s R s) t b (R.key s) (R.val s)
    ∙ ap (λ (L : Leaf). insert L t (R.key s) (R.val s)) (read_erase R s a)

pub read_moves : (occ : ℕ → Bool) (cs : List Copy) (R : Stored) (i t e : ℕ) → Fits occ i t e cs → e ≤ 14
    → read_of (moves_s R cs) ≡ moves (read_of R) cs
read_moves occ [] R i t e f l = refl
read_moves occ (c ∷ cs) R i t e f l =
    read_moves occ cs (move_s R c.from c.to) (suc c.from) (suc c.to) e f.5 l
    ∙ ap (λ (L : Leaf). moves L cs) (read_move R c.from c.to (omega (arith, f.1)) (omega (arith, f.3)))

pub read_flip : (R : Stored) → read_of (with_head R (flipped R.head)) ≡ relink (read_of R) (R.sib (1 - alt_in R.head))
read_flip R = λ i. record {
  size = 14;
  lock = locked_flipped R.head i;
  next = R.sib (alt_flipped R.head i);
  occ = occ_same R.head (flipped R.head) (occupied_flipped R.head) i;
  fp = fun_ext (fingerprint_flipped R.head) i;
  key = R.key;
  val = R.val;
}

pub read_thin : (ss : List ℕ) (R : Stored) → All (λ s. s < 14) ss
    → read_of (with_head R (cleared_all R.head ss)) ≡ thin (read_of R) ss
read_thin [] R a = refl
read_thin (s ∷ ss) R a = read_thin ss (erase_s R s) a.1 ∙ ap (λ (L : Leaf). thin L ss) (read_erase R s a.0)

pub alt_clear_all : (ss : List ℕ) (h : ℕ) → All (λ s. s < 14) ss → alt_in (cleared_all h ss) ≡ alt_in h
alt_clear_all [] h a = refl
alt_clear_all (s ∷ ss) h a = alt_clear_all ss (cleared h s) a.1 ∙ alt_cleared h s a.0

pub read_gather : (key val : ℕ → ℕ) (ss : List ℕ) (R : Stored) (t : ℕ) → t + length ss ≤ 14
    → read_of (gather_s key val R t ss) ≡ gather key val (read_of R) t ss
read_gather key val [] R t l = refl
read_gather key val (s ∷ ss) R t l =
    read_gather key val ss (insert_s R t (key s) (val s)) (suc t) (omega arith)
    ∙ ap (λ (L : Leaf). gather key val L (suc t) ss) (read_insert R t (omega arith) (key s) (val s))

-- ---- the empty leaf

field_zero : (p w : ℕ) → field 0 p w ≡ 0
unfolding field
field_zero p w = rw (zero-div (2 ^ p)) (zero-mod (2 ^ w))

none_occupied : occ_in 0 ≡ (λ s. false)
unfolding is_occupied
none_occupied = fun_ext (λ t. go t (dec_lt t 14))
  where
    go : (t : ℕ) → Dec (t < 14) → occ_in 0 t ≡ false
    go t (yes b) = occ_in_lem 0 t b ∙ ap (λ (x : ℕ). eqb x 1) (field_zero t 1)
    go t (no b) = occ_out 0 t (omega arith)

no_prints : fingerprint_in 0 ≡ (λ s. 0)
unfolding fingerprint_in
no_prints = fun_ext (λ s. field_zero (16 + 8 * s) 8)

no_lock : is_locked 0 ≡ false
unfolding is_locked
no_lock = ap (λ (x : ℕ). eqb x 1) (field_zero 14 1)

alt_zero : alt_in 0 ≡ 0
unfolding alt_in
alt_zero = field_zero 15 1

pub read_zero : (sib : ℕ → ℕ) → read_of (record { head = 0; key = λ s. 0; val = λ s. 0; sib = sib }) ≡ empty_leaf 14 (sib 0)
read_zero sib = λ i. record {
  size = 14;
  lock = no_lock i;
  next = sib (alt_zero i);
  occ = none_occupied i;
  fp = no_prints i;
  key = λ s. 0;
  val = λ s. 0;
}

pub read_empty : (n : ℕ) → read_of (empty_s n) ≡ empty_leaf 14 n
read_empty n = read_zero (empty_s n).sib
