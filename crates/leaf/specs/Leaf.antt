-- A leaf as it is read: what its bits, fingerprints, keys, values and siblings say.
use Rattle.std.specs.Prelude.{◌≡◌, Bool, true, false, cond, List, ℕ, ◌+◌, ◌*◌, ◌<◌, ltb}
use Rattle.words.specs.Words.{reads}
use Rattle.header.specs.Header.{whole, is_occupied, is_locked, alt_in, fingerprint_in, fingerprint_of}

-- How many slots it has, its lock, its active sibling, and for each slot whether it is occupied, its fingerprint, key and value.
pub record Leaf : Type 0 where
  pub size : ℕ
  pub lock : Bool
  pub next : ℕ
  pub occ : ℕ → Bool
  pub fp : ℕ → ℕ
  pub key : ℕ → ℕ
  pub val : ℕ → ℕ

-- "bit s (0 to 13) says slot s is occupied": a leaf has no other slot
unfoldable pub occ_in : ℕ → ℕ → Bool
occ_in h s = cond (ltb s 14) (is_occupied h s) false

-- "A leaf has 32 words of 8 bytes", here the words g: the header in words 0 and 1, key and value of slot s at bytes 16 + 16s and
-- 24 + 16s, the siblings at bytes 240 and 248. "The active sibling is the one alt names."
abbrev pub head_of : (ℕ → ℕ) → ℕ
head_of g = whole (g 0) (g 1)

abbrev pub leaf_of : (ℕ → ℕ) → Leaf
leaf_of g = record {
  size = 14;
  lock = is_locked (head_of g);
  next = g (30 + alt_in (head_of g));
  occ = occ_in (head_of g);
  fp = fingerprint_in (head_of g);
  key = λ s. g (2 + 2 * s);
  val = λ s. g (3 + 2 * s);
}

-- "Each leaf's part of the image is handed on to the leaf search as it is": the leaf in 256 bytes
unfoldable pub leaf_in : List ℕ → Leaf
leaf_in part = leaf_of (reads part)

-- "a byte buffer of N blocks of 256 bytes": the 32 words of block b of an image whose words are w, and the leaf in it
unfoldable pub block : (ℕ → ℕ) → ℕ → ℕ → ℕ
block w b i = cond (ltb i 32) (w (32 * b + i)) 0

unfoldable pub view : (ℕ → ℕ) → ℕ → Leaf
view w b = leaf_of (block w b)

-- slot s is occupied
abbrev pub Taken : Leaf → ℕ → Type 0
Taken L s = L.occ s ≡ true

-- the leaf has the entry k, v
pub record In (L : Leaf) (k v : ℕ) : Type 0 where
  pub at : ℕ
  pub taken : Taken L at
  pub key_is : L.key at ≡ k
  pub val_is : L.val at ≡ v

-- "each occupied slot has its key's fingerprint; all keys in a leaf differ"
pub record Right (L : Leaf) : Type 0 where
  pub inside : (s : ℕ) → Taken L s → s < L.size
  pub prints : (s : ℕ) → Taken L s → L.fp s ≡ fingerprint_of (L.key s)
  pub differ : (s t : ℕ) → Taken L s → Taken L t → L.key s ≡ L.key t → s ≡ t
