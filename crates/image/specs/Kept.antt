-- What is used of an image, and the stores that change nothing of it. An image is here its words, `w`.
use Rattle.std.specs.Prelude.{◌≡◌, false, List, ◌≢◌, ℕ, ◌+◌, ◌-◌, ◌*◌, ◌<◌}
use Rattle.header.specs.Header.{whole, alt_in, fingerprint_in}
use Rattle.leaf.specs.Leaf.{Taken, occ_in, head_of, leaf_of, block}
use Rattle.image.specs.Chain.{All}

-- "Blocks outside the chain, vacant slots with their fingerprints, and inactive siblings may hold anything": the
-- words h of a block are as g in the rest
pub record Used (g h : ℕ → ℕ) : Type 0 where
  pub low : h 0 ≡ g 0
  pub fp : (s : ℕ) → Taken (leaf_of g) s → fingerprint_in (head_of h) s ≡ fingerprint_in (head_of g) s
  pub key : (s : ℕ) → Taken (leaf_of g) s → h (2 + 2 * s) ≡ g (2 + 2 * s)
  pub val : (s : ℕ) → Taken (leaf_of g) s → h (3 + 2 * s) ≡ g (3 + 2 * s)
  pub sib : h (30 + alt_in (head_of g)) ≡ g (30 + alt_in (head_of g))

-- the image x is as w in all that is used of the chain bs
abbrev pub Kept : (ℕ → ℕ) → List ℕ → (ℕ → ℕ) → Type 0
Kept w bs x = All (λ b. Used (block w b) (block x b)) bs

-- "unused places: blocks outside the chain, vacant slots, the inactive sibling, or word 1 where only vacant slots'
-- fingerprints change" (document 02): v stored in word i of a block whose words are g
pub data Unused (g : ℕ → ℕ) (i v : ℕ) : Type 0 where
  of_key : (s : ℕ) → s < 14 → occ_in (head_of g) s ≡ false → i ≡ 2 + 2 * s → Unused g i v
  of_val : (s : ℕ) → s < 14 → occ_in (head_of g) s ≡ false → i ≡ 3 + 2 * s → Unused g i v
  of_sib : i ≡ 30 + (1 - alt_in (head_of g)) → Unused g i v
  of_prints : i ≡ 1
      → ((s : ℕ) → Taken (leaf_of g) s → fingerprint_in (whole (g 0) v) s ≡ fingerprint_in (head_of g) s) → Unused g i v

-- v stored at word p of the image does not meet block b, or goes to an unused place of it
pub data Spares (w : ℕ → ℕ) (p v b : ℕ) : Type 0 where
  outside : ((i : ℕ) → i < 32 → 32 * b + i ≢ p) → Spares w p v b
  inside : (i : ℕ) → i < 32 → p ≡ 32 * b + i → Unused (block w b) i v → Spares w p v b

abbrev pub Harmless : (ℕ → ℕ) → List ℕ → ℕ → ℕ → Type 0
Harmless w bs p v = All (Spares w p v) bs
