-- Images of bytes: their size, the blank one, and that alike images agree in all that is used.
use Rattle.std.specs.Prelude.{◌≡◌, refl, Bool, true, false, not, ◌||◌, List, [], ◌∷◌, ℕ, ◌+◌, ◌-◌, ◌*◌, ◌/◌, ◌%◌, ◌≤◌, ◌<◌, ltb, eqb, replicate, length}
use Rattle.std.proofs.Math.Path.{sym, ap, fun_ext}
use Rattle.std.proofs.Common.{inr, ◌∙◌, inl, ltb-false, eqb-true, ne_eqb, eq-eqb, le-ltb}
use Rattle.std.proofs.Math.Nat.{mul-zero}
use Rattle.std.proofs.Math.Decide.{dec_lt}
use native.Mathlib.Omega.{arith}
use Rattle.std.proofs.lemmas.Bool.{eqb-false}
use Rattle.std.proofs.lemmas.List.{length-replicate, get_or-replicate}
use Rattle.std.proofs.Math.ListN.{get_or-eq_default}
use Rattle.words.specs.Words.{word_at, reads}
use Rattle.words.specs.Bools.{differ}
use Rattle.words.specs.BelowLaws.{count_zero}
use Rattle.header.specs.Header.{fingerprint_of}
use Rattle.leaf.specs.Leaf.{Leaf, Taken, leaf_of, block, view}
use Rattle.leaf.proofs.LeafLaws.{block_at, block_past}
use Rattle.leaf.specs.Search.{count}
use Rattle.steps.specs.Refusals.{bad_image}
use Rattle.image.proofs.PotentialLaws.{sum_agree}
use Rattle.image.specs.Chain.{All, Links, Has, Sound}
use Rattle.image.specs.Image.{blocks, leaves, SoundImage, Blank, AlikeLeaf, Alike}
use Rattle.image.proofs.Same.{Same}
use Rattle.image.specs.ChainLaws.{Good}
use Rattle.image.proofs.ChainLaws.{sound_good, good_sound, Agree}
use Rattle.image.proofs.Parting.{empty_leaf}
use Rattle.image.proofs.Stored.{read_zero}
use Rattle.image.proofs.ListLaws.{lists_unique}
use Rattle.image.specs.Entries.{list_of}
use Rattle.image.proofs.Entries.{chain_lists}
use Rattle.image.specs.Potential.{sum_of, excess, phi}

-- ---- the size of an image that is not refused for it

pub record Sized (l : List ℕ) : Type 0 where
  pub whole : length l ≡ 256 * blocks l
  pub some : 0 < blocks l
  pub most : blocks l ≤ 256

pub good_length : (l : List ℕ) → bad_image (length l) ≡ false → Sized l
unfolding bad_image
good_length l e = go (eqb (length l) 0) (ltb 65536 (length l)) (eqb (length l % 256) 0) refl refl refl e
  where
    go : (a b c : Bool) → eqb (length l) 0 ≡ a → ltb 65536 (length l) ≡ b → eqb (length l % 256) 0 ≡ c
        → (a || (b || not c)) ≡ false → Sized l
    go true b c p q r h = differ h
    go false true c p q r h = differ h
    go false false false p q r h = differ h
    go false false true p q r h =
        let x : length l ≡ 0 → ⊥ = eqb-false (length l) 0 p in
        let y : length l ≤ 65536 = ltb-false 65536 (length l) q in
        let z : length l % 256 ≡ 0 = eqb-true (length l % 256) 0 r in
        record { whole = omega arith; some = omega arith; most = omega arith }

pub length_good : (l : List ℕ) → Sized l → bad_image (length l) ≡ false
unfolding bad_image
length_good l s =
    rw (ne_eqb (length l) 0 (omega arith), le-ltb 65536 (length l) (omega arith), eq-eqb (length l % 256) 0 (omega arith))

-- ---- the blank image

zero_words : (l : List ℕ) → Blank l → (b : ℕ) → block (reads l) b ≡ (λ i. 0)
unfolding reads word_at
zero_words l z b = fun_ext (λ i. go i (dec_lt i 32))
  where
    word : (p : ℕ) → word_at l p ≡ 0
    word p = omega (arith, z p, z (p + 1), z (p + 2), z (p + 2 + 1), z (p + 4), z (p + 4 + 1), z (p + 4 + 2), z (p + 4 + 2 + 1))

    go : (i : ℕ) → Dec (i < 32) → block (reads l) b i ≡ 0
    go i (yes h) = block_at (reads l) b i h ∙ word (8 * (32 * b + i))
    go i (no h) = block_past (reads l) b i (omega arith)

pub zeros_blank : (n : ℕ) → Blank (replicate n 0)
zeros_blank n p =
    elim (dec_lt p n) [
      | yes h ↦ get_or-replicate n p 0 0 h
      | no h ↦ get_or-eq_default (replicate n 0) 0 (omega (arith, length-replicate {A = ℕ} n 0))
    ]

module _ (l : List ℕ) (z : Blank l) where
  blank_leaf : (b : ℕ) → leaves l b ≡ empty_leaf 14 0
  unfolding view
  blank_leaf b = ap leaf_of (zero_words l z b) ∙ read_zero (λ a. 0)

  blank_vacant : (b s : ℕ) → Taken (leaves l b) s → ⊥
  blank_vacant b s t = differ (sym t ∙ ap (λ (L : Leaf). L.occ s) (blank_leaf b))

  pub blank_sound : 0 < blocks l → Sound (leaves l) (blocks l) (0 ∷ [])
  blank_sound h =
      good_sound (leaves l) (blocks l) (0 ∷ []) refl (refl, next) (
        record {
          unlocked = ap (λ (L : Leaf). L.lock) (blank_leaf 0);
          near = rw next h;
          right = record {
            inside = λ s t. absurd (blank_vacant 0 s t);
            prints = λ s t. absurd (blank_vacant 0 s t);
            differ = λ s t a b e. absurd (blank_vacant 0 s a);
          };
          filled = inl refl;
        },
        tt,
      )
      (tt, tt)
      (λ k v j u i g. absurd g, tt)
    where
      next : (leaves l 0).next ≡ 0
      next = ap (λ (L : Leaf). L.next) (blank_leaf 0)

  pub blank_image : 0 < blocks l → SoundImage l
  blank_image h = record { chain = 0 ∷ []; sound = blank_sound h }

  pub blank_empty : (k v : ℕ) → Has (leaves l) (0 ∷ []) k v → ⊥
  blank_empty k v (inr x') = elim x' [ ]
  blank_empty k v (inl i) = blank_vacant 0 i.at i.taken

  pub blank_list : 0 < blocks l → list_of (leaves l) (0 ∷ []) ≡ []
  blank_list h =
      lists_unique (Has (leaves l) (0 ∷ [])) (λ k v. ⊥) (list_of (leaves l) (0 ∷ [])) []
      (record { to = blank_empty; back = λ k v f. absurd f })
      (chain_lists (leaves l) (blocks l) (0 ∷ []) (blank_sound h))
      (record { sorted = tt; members = record { to = λ k v m. m; back = λ k v m. m } })

  -- no leaf has more than any half
  pub blank_phi : (weight half : ℕ) → sum_of (excess weight half) (leaves l) (0 ∷ []) ≡ 0
  unfolding sum_of count
  blank_phi weight half =
      let c : count (leaves l 0) ≡ 0 = ap count (blank_leaf 0) ∙ count_zero (λ s. false) 14 (λ s b. refl) in
      let d : count (leaves l 0) - half ≡ 0 = omega arith in
      omega (arith, ap (λ (n : ℕ). weight * n) d, mul-zero weight)

-- ---- alike images

-- one chain of two images: the active siblings agree
links_first : (I J : ℕ → Leaf) (a c : ℕ) (bs : List ℕ) (z : ℕ) → Links I a bs z → Links J c bs z → c ≡ a
links_first I J a c [] z l m = m ∙ sym l
links_first I J a c (b ∷ bs) z l m = m.0 ∙ sym l.0

links_next : (I J : ℕ → Leaf) (a c : ℕ) (bs : List ℕ) (z : ℕ) → Links I a bs z → Links J c bs z
    → All (λ b. (J b).next ≡ (I b).next) bs
links_next I J a c [] z l m = tt
links_next I J a c (b ∷ bs) z l m =
    (links_first I J (I b).next (J b).next bs z l.1 m.1, links_next I J (I b).next (J b).next bs z l.1 m.1)

module _ (l m : List ℕ) where
  alike_same : (N b : ℕ) → AlikeLeaf (leaves l b) (leaves m b) → (leaves m b).next ≡ (leaves l b).next → Good (leaves l) N b
      → Good (leaves m) N b → Same (leaves l b) (leaves m b)
  unfolding view
  alike_same N b a n g h = record {
    lock = h.unlocked ∙ sym g.unlocked;
    next = n;
    slots = record {
      size = refl;
      occ = a.occ;
      fp = λ s t.
          h.right.prints s (a.occ s ∙ t) ∙ ap fingerprint_of (a.key s t) ∙ sym (g.right.prints s t);
      key = a.key;
      val = a.val;
    };
  }

  alike_all : (N : ℕ) (bs : List ℕ) → All (λ b. AlikeLeaf (leaves l b) (leaves m b)) bs
      → All (λ b. (leaves m b).next ≡ (leaves l b).next) bs → All (Good (leaves l) N) bs → All (Good (leaves m) N) bs
      → Agree bs (leaves l) (leaves m)
  alike_all N [] a n g h = tt
  alike_all N (b ∷ bs) a n g h = (alike_same N b a.0 n.0 g.0 h.0, alike_all N bs a.1 n.1 g.1 h.1)

  -- so that all that holds of images that agree holds of alike ones: the same map and list, targets, counts and
  -- potential
  pub alike_agree : (a : Alike l m) → Agree a.chain (leaves l) (leaves m)
  alike_agree a =
      alike_all (blocks l) a.chain a.slots
      (links_next (leaves l) (leaves m) 0 0 a.chain 0 a.first.links a.second.links)
      (sound_good (leaves l) (blocks l) a.first)
      (sound_good (leaves m) (blocks l) (rw e at a.second))
    where
      e : blocks m ≡ blocks l
      e = ap (λ (n : ℕ). n / 256) a.long

  pub alike_phi : (a : Alike l m) → phi (leaves m) a.chain ≡ phi (leaves l) a.chain
  alike_phi a = sum_agree (excess 6 7) (leaves l) (leaves m) a.chain (alike_agree a)
