-- Kept images: harmless stores leave an image kept, and a kept image of a sound one is sound, with the same chain and
-- map.
use Rattle.std.specs.Prelude.{◌≡◌, refl, Bool, false, List, [], ◌∷◌, ◌++◌, ◌≢◌, ℕ, ◌+◌, ◌*◌, ◌^◌, ◌≤◌, ◌<◌}
use Rattle.std.proofs.Common.{sym, ◌∙◌, arith}
use Rattle.std.proofs.Math.Path.{ap}
use Rattle.std.proofs.Math.Nat.{mul-add-mod_self_right}
use Rattle.std.proofs.Math.Dec.{eqb}
use Rattle.words.specs.Bools.{differ}
use Rattle.words.specs.Update.{upd, upd_same, upd_other}
use Rattle.header.specs.Fields.{field}
use Rattle.header.proofs.FieldLaws.{field_of_low}
use Rattle.header.specs.Header.{whole, is_occupied, is_locked, alt_in, fingerprint_in}
use Rattle.header.proofs.HeaderLaws.{alt_lt}
use Rattle.leaf.specs.Leaf.{Taken, occ_in, head_of, leaf_of, block, view}
use Rattle.leaf.proofs.LeafLaws.{occ_slot, block_store, block_store_other}
use Rattle.image.specs.Chain.{All, Distinct, Sound}
use Rattle.image.proofs.ChainLaws.{all_join, all_zip, all_map, distinct_at, Agree}
use Rattle.image.specs.Kept.{Used, Kept, Unused, of_key, of_val, of_sib, of_prints, Spares, outside, inside}
use Rattle.image.specs.Kept.{Harmless}
use Rattle.image.proofs.Same.{Same}
use Rattle.image.proofs.Stored.{occ_same}
use Rattle.image.proofs.Changes.{Stays, agree_stays}

-- ---- what word 0 says by itself

module _ (l h k : ℕ) where
  low_bits : (p w : ℕ) → p + w ≤ 64 → field (whole l k) p w ≡ field (whole l h) p w
  low_bits p w b =
      field_of_low (whole l k) (whole l h) 64 p w b
      (mul-add-mod_self_right k (2 ^ 64) l ∙ sym (mul-add-mod_self_right h (2 ^ 64) l))

  lock_low : is_locked (whole l k) ≡ is_locked (whole l h)
  unfolding is_locked
  lock_low = ap (λ (x : ℕ). eqb x 1) (low_bits 14 1 (omega arith))

  alt_low : alt_in (whole l k) ≡ alt_in (whole l h)
  unfolding alt_in
  alt_low = low_bits 15 1 (omega arith)

  occ_low : occ_in (whole l k) ≡ occ_in (whole l h)
  unfolding is_occupied
  occ_low = occ_same (whole l h) (whole l k) (λ t b. ap (λ (x : ℕ). eqb x 1) (low_bits t 1 (omega arith)))

  pub print_low : (s : ℕ) → s < 6 → fingerprint_in (whole l k) s ≡ fingerprint_in (whole l h) s
  unfolding fingerprint_in
  print_low s b = low_bits (16 + 8 * s) 8 (omega arith)

-- ---- one block

used_refl : (g : ℕ → ℕ) → Used g g
used_refl g = record { low = refl; fp = λ s t. refl; key = λ s t. refl; val = λ s t. refl; sib = refl }

used_same : {g h : ℕ → ℕ} → Used g h → Same (leaf_of g) (leaf_of h)
used_same {g} {h} u = record {
  lock = rw u.low (lock_low (g 0) (g 1) (h 1));
  next = rw u.low (ap (λ (a : ℕ). h (30 + a)) (alt_low (g 0) (g 1) (h 1)) ∙ u.sib);
  slots = record {
    size = refl;
    occ = λ s. rw u.low (ap (λ (f : ℕ → Bool). f s) (occ_low (g 0) (g 1) (h 1)));
    fp = u.fp;
    key = u.key;
    val = u.val;
  };
}

module _ (g h : ℕ → ℕ) (i v : ℕ) (u : Used g h) where
  -- a store that meets no used word
  used_miss : i ≢ 0 → i ≢ 1 → ((s : ℕ) → Taken (leaf_of g) s → (i ≢ 2 + 2 * s) × (i ≢ 3 + 2 * s)) → i ≢ 30 + alt_in (head_of g)
      → Used g (upd h i v)
  used_miss a b c d = record {
    low = upd_other h i v 0 (omega arith) ∙ u.low;
    fp = λ s t. rw (upd_other h i v 0 (omega arith), upd_other h i v 1 (omega arith)) (u.fp s t);
    key = λ s t. upd_other h i v (2 + 2 * s) (λ e. (c s t).0 (sym e)) ∙ u.key s t;
    val = λ s t. upd_other h i v (3 + 2 * s) (λ e. (c s t).1 (sym e)) ∙ u.val s t;
    sib = upd_other h i v (30 + alt_in (head_of g)) (λ e. d (sym e)) ∙ u.sib;
  }

  other : (s : ℕ) → occ_in (head_of g) s ≡ false → (t : ℕ) → Taken (leaf_of g) t → s ≢ t
  other s o t a q = differ (sym a ∙ ap (occ_in (head_of g)) (sym q) ∙ o)

  unused_used : Unused g i v → Used g (upd h i v)
  unused_used (of_key s l o e) =
      used_miss (omega arith) (omega arith) (λ t a. (λ q. other s o t a (omega arith), omega arith)) (omega arith)
  unused_used (of_val s l o e) =
      used_miss (omega arith) (omega arith) (λ t a. (omega arith, λ q. other s o t a (omega arith))) (omega arith)
  unused_used (of_sib e) =
      let b : alt_in (head_of g) < 2 = alt_lt (head_of g) in
      used_miss (omega arith) (omega arith)
      (λ t a. let l : t < 14 = occ_slot (head_of g) t a in (omega arith, omega arith))
      (omega arith)
  unused_used (of_prints e f) = record {
    low = upd_other h i v 0 (omega arith) ∙ u.low;
    fp = λ s t. rw (e, upd_other h 1 v 0 (omega arith), upd_same h 1 v, u.low) (f s t);
    key = λ s t. upd_other h i v (2 + 2 * s) (omega arith) ∙ u.key s t;
    val = λ s t. upd_other h i v (3 + 2 * s) (omega arith) ∙ u.val s t;
    sib = upd_other h i v (30 + alt_in (head_of g)) (omega arith) ∙ u.sib;
  }

-- ---- the image

module _ (w : ℕ → ℕ) where
  pub kept_refl : (bs : List ℕ) → Kept w bs w
  kept_refl [] = tt
  kept_refl (b ∷ bs) = (used_refl (block w b), kept_refl bs)

  -- the set of kept images is closed under harmless stores, ..
  pub kept_closed : (bs : List ℕ) (x : ℕ → ℕ) (p v : ℕ) → Harmless w bs p v → Kept w bs x → Kept w bs (upd x p v)
  kept_closed bs x p v h s =
      all_zip (Spares w p v) (λ b. Used (block w b) (block x b)) (λ b. Used (block w b) (block (upd x p v) b)) go bs h s
    where
      go : (b : ℕ) → Spares w p v b → Used (block w b) (block x b) → Used (block w b) (block (upd x p v) b)
      go b (outside f) u = rw (block_store_other x b p v f) u
      go b (inside i l e f) u = rw (e, block_store x b i v l) (unused_used (block w b) (block x b) i v u f)

  -- .. and its images agree in all that is used
  pub kept_agree : (bs : List ℕ) (x : ℕ → ℕ) → Kept w bs x → Agree bs (view w) (view x)
  unfolding view
  kept_agree bs x s =
      all_map (λ b. Used (block w b) (block x b)) (λ b. Same (leaf_of (block w b)) (leaf_of (block x b))) (λ b. used_same) bs s

  pub kept_stays : (N : ℕ) (bs : List ℕ) (x : ℕ → ℕ) → Sound (view w) N bs → Kept w bs x → Stays (view w) (view x) N bs bs
  kept_stays N bs x S s = agree_stays (view w) (view x) N bs S (kept_agree bs x s)

-- ---- harmless stores

-- to an unused place of a chained block
pub harmless_in : (w : ℕ → ℕ) (xs : List ℕ) (b : ℕ) (ys : List ℕ) (i v : ℕ) → Distinct (xs ++ (b ∷ ys)) → i < 32
    → Unused (block w b) i v → Harmless w (xs ++ (b ∷ ys)) (32 * b + i) v
harmless_in w xs b ys i v d l u =
    let a : All (λ x. x ≢ b) xs × All (λ y. y ≢ b) ys = distinct_at xs b ys d in
    all_join (Spares w (32 * b + i) v) xs (b ∷ ys) (all_map (λ x. x ≢ b) (Spares w (32 * b + i) v) far xs a.0)
    (inside i l refl u, all_map (λ x. x ≢ b) (Spares w (32 * b + i) v) far ys a.1)
  where
    far : (c : ℕ) → c ≢ b → Spares w (32 * b + i) v c
    far c ne = outside (λ j m. omega arith)

-- to a block outside the chain
pub harmless_out : (w : ℕ → ℕ) (bs : List ℕ) (c i v : ℕ) → All (λ x. x ≢ c) bs → i < 32 → Harmless w bs (32 * c + i) v
harmless_out w bs c i v a l =
    all_map (λ x. x ≢ c) (Spares w (32 * c + i) v) (λ x ne. outside (λ j m. omega arith)) bs a
