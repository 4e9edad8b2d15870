-- The words of a block and the leaf in a part of an image: a store in a block is that store in its words, other blocks stay, and
-- the 256 bytes from block b on hold the leaf of block b.
use Rattle.std.specs.Prelude.{◌≡◌, true, false, List, ◌≢◌, ℕ, ◌+◌, ◌-◌, ◌*◌, ◌≤◌, ◌<◌, take, drop}
use Rattle.std.proofs.Common.{sym, ap, ◌∙◌, arith, lt-ltb, le-ltb, length-take}
use Rattle.std.proofs.Math.Path.{fun_ext}
use Rattle.std.proofs.Math.Decide.{ℕ_discrete, dec_lt}
use Rattle.words.specs.Words.{reads}
use Rattle.words.specs.WordLaws.{reads_block, reads_past}
use Rattle.words.specs.Update.{upd, upd_same, upd_other}
use Rattle.words.specs.Bools.{differ}
use Rattle.header.specs.Header.{is_occupied}
use Rattle.leaf.specs.Leaf.{occ_in, leaf_of, leaf_in, block, view}

-- ---- the bits of the slots

pub occ_in_lem : (h s : ℕ) → s < 14 → occ_in h s ≡ is_occupied h s
unfolding occ_in
occ_in_lem h s l = rw (lt-ltb s 14 l)

pub occ_out : (h s : ℕ) → 14 ≤ s → occ_in h s ≡ false
unfolding occ_in
occ_out h s l = rw (le-ltb s 14 l)

-- an occupied slot is one of the 14
pub occ_slot : (h s : ℕ) → occ_in h s ≡ true → s < 14
occ_slot h s e = elim (dec_lt s 14) [ yes l ↦ l | no l ↦ differ (sym e ∙ occ_out h s (omega arith)) ]

-- ---- the words of a block

module _ (w : ℕ → ℕ) (b : ℕ) where
  pub block_at : (i : ℕ) → i < 32 → block w b i ≡ w (32 * b + i)
  unfolding block
  block_at i h = rw (lt-ltb i 32 h)

  pub block_past : (i : ℕ) → 32 ≤ i → block w b i ≡ 0
  unfolding block
  block_past i h = rw (le-ltb i 32 h)

pub block_store : (w : ℕ → ℕ) (b i v : ℕ) → i < 32 → block (upd w (32 * b + i) v) b ≡ upd (block w b) i v
block_store w b i v h = fun_ext (λ j. go j (ℕ_discrete j i) (dec_lt j 32))
  where
    x : ℕ → ℕ
    x = upd w (32 * b + i) v

    go : (j : ℕ) → Dec (j ≡ i) → Dec (j < 32) → block (upd w (32 * b + i) v) b j ≡ upd (block w b) i v j
    go j (yes e) l = rw e (block_at x b i h ∙ upd_same w (32 * b + i) v ∙ sym (upd_same (block w b) i v))
    go j (no ne) (yes l) =
        block_at x b j l ∙ upd_other w (32 * b + i) v (32 * b + j) (omega arith)
        ∙ sym (upd_other (block w b) i v j ne ∙ block_at w b j l)
    go j (no ne) (no l) = block_past x b j (omega arith) ∙ sym (upd_other (block w b) i v j ne ∙ block_past w b j (omega arith))

-- two images that agree in a block
pub block_agree : (w x : ℕ → ℕ) (b : ℕ) → ((i : ℕ) → i < 32 → x (32 * b + i) ≡ w (32 * b + i)) → block x b ≡ block w b
block_agree w x b h = fun_ext (λ i. go i (dec_lt i 32))
  where
    go : (i : ℕ) → Dec (i < 32) → block x b i ≡ block w b i
    go i (yes l) = block_at x b i l ∙ h i l ∙ sym (block_at w b i l)
    go i (no l) = block_past x b i (omega arith) ∙ sym (block_past w b i (omega arith))

pub block_store_other : (w : ℕ → ℕ) (b p v : ℕ) → ((i : ℕ) → i < 32 → 32 * b + i ≢ p) → block (upd w p v) b ≡ block w b
block_store_other w b p v h = block_agree w (upd w p v) b (λ i l. upd_other w p v (32 * b + i) (h i l))

-- ---- a part of an image

-- the 256 bytes from block b on, as the code lends them: from a up to e
pub part_leaf : (l : List ℕ) (b a e : ℕ) → a ≡ 256 * b → e ≡ a + 256 → leaf_in (take (e - a) (drop a l)) ≡ view (reads l) b
unfolding leaf_in view
part_leaf l b a e p q = let n : e - a ≡ 256 = omega arith in rw (n, p) (ap leaf_of (fun_ext (λ i. go i (dec_lt i 32))))
  where
    go : (i : ℕ) → Dec (i < 32) → reads (take 256 (drop (256 * b) l)) i ≡ block (reads l) b i
    go i (yes h) = reads_block l b i h ∙ sym (block_at (reads l) b i h)
    go i (no h) =
        reads_past (take 256 (drop (256 * b) l)) i (omega (arith, length-take 256 (drop (256 * b) l)))
        ∙ sym (block_past (reads l) b i (omega arith))
