-- One turn of each loop over the slots, and each answer of a test, as a step of the definition that the loop computes.
use Rattle.std.specs.Prelude.{◌≡◌, Bool, true, false, List, eqb, Some, None}
use Rattle.std.proofs.Math.Path.{refl, ap}
use Rattle.std.proofs.Common.{sym, ◌∙◌, add-one}
use Prim.Native.Nat.{ℕ, suc, ◌+◌, ◌-◌, ◌*◌, ◌^◌, ◌≤◌, ◌<◌}
use native.Mathlib.Omega.{arith}
use borrow.Author.Tests.{eq-eqb, ne_eqb}
use Rattle.words.specs.Words.{word_at, reads}
use Rattle.words.specs.WordLaws.{Bytes, word_small}
use Rattle.header.specs.Header.{head_at, alt_in, is_locked, is_occupied, fingerprint_in, fingerprint_of}
use Rattle.leaf.specs.Leaf.{Leaf, leaf_in}
use Rattle.leaf.proofs.LeafLaws.{occ_in_lem}
use Rattle.leaf.specs.Search.{pick_slot, lowest, holds_key, slot_of}

-- ---- what is read of the bytes

module _ (l : List ℕ) (h : ℕ) (head : h ≡ head_at l 0) where
  pub in_occ : (s : ℕ) → s < 14 → is_occupied h s ≡ (leaf_in l).occ s
  unfolding leaf_in reads head_at
  in_occ s b = rw head (sym (occ_in_lem (head_at l 0) s b))

  pub in_fp : (s : ℕ) → fingerprint_in h s ≡ (leaf_in l).fp s
  unfolding leaf_in reads head_at
  in_fp s = rw head refl

  pub in_lock : is_locked h ≡ (leaf_in l).lock
  unfolding leaf_in reads head_at
  in_lock = rw head refl

  pub in_next : (a p : ℕ) → a ≡ alt_in h → p ≡ 240 + 8 * a → word_at l p ≡ (leaf_in l).next
  unfolding leaf_in reads head_at
  in_next a p e q = let x : p ≡ 8 * (30 + alt_in h) = omega arith in rw (x, head) refl

module _ (l : List ℕ) where
  pub in_key : (s : ℕ) → word_at l (16 + 16 * s) ≡ (leaf_in l).key s
  unfolding leaf_in reads
  in_key s = let e : 16 + 16 * s ≡ 8 * (2 + 2 * s) = omega arith in ap (word_at l) e

  pub in_val : (s : ℕ) → word_at l (24 + 16 * s) ≡ (leaf_in l).val s
  unfolding leaf_in reads
  in_val s = let e : 24 + 16 * s ≡ 8 * (3 + 2 * s) = omega arith in ap (word_at l) e

  pub key_small : (s : ℕ) → Bytes l → (leaf_in l).key s < 2 ^ 64
  unfolding leaf_in reads
  key_small s h = word_small l (8 * (2 + 2 * s)) h

-- ---- the answers of the tests

module _ (L : Leaf) (k s : ℕ) where
  pub holds_key_lem : L.occ s ≡ true → L.fp s ≡ fingerprint_of k → eqb (L.key s) k ≡ holds_key L k s
  unfolding holds_key
  holds_key_lem p q = rw (p, eq-eqb (L.fp s) (fingerprint_of k) q)

  pub holds_vacant : L.occ s ≡ false → false ≡ holds_key L k s
  unfolding holds_key
  holds_vacant p = rw p

  pub holds_other : L.occ s ≡ true → (L.fp s ≡ fingerprint_of k → ⊥) → false ≡ holds_key L k s
  unfolding holds_key
  holds_other p q = rw (p, ne_eqb (L.fp s) (fingerprint_of k) q)

-- ---- the turns

module _ (f : ℕ → Bool) (n i : ℕ) where
  lowest_step : i < n → lowest f (n - i) i ≡ pick_slot (f i) i (lowest f (n - (i + 1)) (i + 1))
  unfolding lowest
  lowest_step h = let e : n - i ≡ suc (n - (i + 1)) = omega arith in rw (e, add-one)

  pub lowest_end : n ≤ i → lowest f (n - i) i ≡ None
  unfolding lowest
  lowest_end h = let e : n - i ≡ 0 = omega arith in rw e

  pub lowest_found : i < n → f i ≡ true → lowest f (n - i) i ≡ Some i
  lowest_found h e = lowest_step h ∙ rw e

  pub lowest_passed : i < n → f i ≡ false → lowest f (n - i) i ≡ lowest f (n - (i + 1)) (i + 1)
  lowest_passed h e = lowest_step h ∙ rw e

-- ---- the whole of the loop, over the 14 slots

pub slot_whole : (l : List ℕ) (k : ℕ) → lowest (holds_key (leaf_in l) k) 14 0 ≡ slot_of (leaf_in l) k
unfolding slot_of leaf_in
slot_whole l k = refl
