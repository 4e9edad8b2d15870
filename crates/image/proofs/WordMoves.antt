-- A plain put past line 0, at the level of words: the entry, the copies out of line 0, words 1 and 0. The image after
-- them is sound, with the right map, and all stores but that of word 0 are harmless.
use Rattle.std.specs.Prelude.{◌≡◌, refl, Bool, true, false, List, [], ◌∷◌, ◌++◌, ◌≢◌, ℕ, suc, ◌+◌, ◌-◌, ◌*◌, ◌^◌, ◌≤◌, ◌<◌}
use Rattle.std.proofs.Common.{sym, ap, ap₂, ◌∙◌, arith, shr-shr}
use Rattle.std.proofs.Math.Decide.{dec_lt}
use Rattle.std.proofs.Math.Pow.{high}
use Rattle.words.specs.Bools.{differ}
use Rattle.words.specs.Update.{upd, upd_other}
use Rattle.header.specs.Fields.{field}
use Rattle.header.specs.Header.{whole, fingerprint_in, marked, cleared, fingerprint_of}
use Rattle.header.proofs.HeaderLaws.{fingerprint_lt, fingerprint_marked_other, fingerprint_cleared}
use Rattle.leaf.specs.Leaf.{Leaf, Taken, occ_in, head_of, leaf_of, block, view}
use Rattle.leaf.specs.Search.{count}
use Rattle.image.specs.Chain.{Sound}
use Rattle.image.specs.Copies.{Copy}
use Rattle.image.specs.Target.{Target}
use Rattle.image.specs.Kept.{Unused, of_prints}
use Rattle.image.proofs.KeptLaws.{print_low}
use Rattle.image.proofs.Same.{slots_eq}
use Rattle.image.proofs.Edits.{insert, Absent}
use Rattle.image.proofs.EditMaps.{moves, Fits, moves_rest}
use Rattle.image.proofs.Stretch.{Changed}
use Rattle.image.proofs.Calls.{put_moved}
use Rattle.image.proofs.Stored.{Stored, stored_of, read_of, with_head, with_entry, insert_s, moves_s, read_insert}
use Rattle.image.proofs.Stored.{read_moves}
use Rattle.image.proofs.Blocks.{Only, only_refl, only_store, only_view, only_others, put_entry, put_head}
use Rattle.image.proofs.Blocks.{stored_entry, stored_head}

-- ---- the copies: g₀ are the block's words before the call

-- the header after them
abbrev pub copy_head : (ℕ → ℕ) → ℕ → List Copy → ℕ
copy_head g₀ h [] = h
copy_head g₀ h (c ∷ cs) = copy_head g₀ (marked (cleared h c.from) c.to (fingerprint_of (g₀ (2 + 2 * c.from)))) cs

-- the block's words after them
abbrev pub copy_words : (ℕ → ℕ) → (ℕ → ℕ) → List Copy → ℕ → ℕ
copy_words g₀ g [] = g
copy_words g₀ g (c ∷ cs) = copy_words g₀ (put_entry g c.to (g₀ (2 + 2 * c.from)) (g₀ (3 + 2 * c.from))) cs

-- the image's words after them, in block b
abbrev pub copy_image : (ℕ → ℕ) → ℕ → (ℕ → ℕ) → List Copy → ℕ → ℕ
copy_image g₀ b x [] = x
copy_image g₀ b x (c ∷ cs) =
    copy_image g₀ b
    (upd (upd x (32 * b + (2 + 2 * c.to)) (g₀ (2 + 2 * c.from))) (32 * b + (3 + 2 * c.to)) (g₀ (3 + 2 * c.from)))
    cs

pub only_copies : (g₀ w : ℕ → ℕ) (b : ℕ) (occ : ℕ → Bool) (cs : List Copy) (x g : ℕ → ℕ) (i t e : ℕ)
    → Fits occ i t e cs → e ≤ 14 → Only w x b g → Only w (copy_image g₀ b x cs) b (copy_words g₀ g cs)
only_copies g₀ w b occ [] x g i t e f l o = o
only_copies g₀ w b occ (c ∷ cs) x g i t e f l o =
    only_copies g₀ w b occ cs _ _ (suc c.from) (suc c.to) e f.5 l
    (only_store (only_store o (2 + 2 * c.to) (g₀ (2 + 2 * c.from)) (omega (arith, f.3))) (3 + 2 * c.to)
    (g₀ (3 + 2 * c.from))
    (omega (arith, f.3)))

-- ---- the leaf that is then read

-- the slots 0 to 2 are as before
abbrev Source : (ℕ → ℕ) → (ℕ → ℕ) → Type 0
Source g₀ g = (j : ℕ) → j < 3 → (g (2 + 2 * j) ≡ g₀ (2 + 2 * j)) × (g (3 + 2 * j) ≡ g₀ (3 + 2 * j))

source_entry : (g₀ g : ℕ → ℕ) (t k v : ℕ) → 3 ≤ t → Source g₀ g → Source g₀ (put_entry g t k v)
source_entry g₀ g t k v l c j o =
    (far (2 + 2 * j) (omega arith) (omega arith) ∙ (c j o).0, far (3 + 2 * j) (omega arith) (omega arith) ∙ (c j o).1)
  where
    far : (p : ℕ) → p ≢ 2 + 2 * t → p ≢ 3 + 2 * t → put_entry g t k v p ≡ g p
    far p x y = upd_other (upd g (2 + 2 * t) k) (3 + 2 * t) v p y ∙ upd_other g (2 + 2 * t) k p x

stored_copies : (g₀ : ℕ → ℕ) (occ : ℕ → Bool) (cs : List Copy) (g : ℕ → ℕ) (h i t e : ℕ) → Fits occ i t e cs → 3 ≤ t → e ≤ 14
    → Source g₀ g
    → with_head (stored_of (copy_words g₀ g cs)) (copy_head g₀ h cs) ≡ moves_s (with_head (stored_of g) h) cs
stored_copies g₀ occ [] g h i t e f a l c = refl
stored_copies g₀ occ (x ∷ cs) g h i t e f a l c =
    let k : ℕ = g₀ (2 + 2 * x.from) in
    let v : ℕ = g₀ (3 + 2 * x.from) in
    let low : 3 ≤ x.to = omega (arith, f.2) in
    let own : (g (2 + 2 * x.from) ≡ g₀ (2 + 2 * x.from)) × (g (3 + 2 * x.from) ≡ g₀ (3 + 2 * x.from)) =
    c x.from f.1 in
    stored_copies g₀ occ cs (put_entry g x.to k v) (marked (cleared h x.from) x.to (fingerprint_of k)) (suc x.from)
    (suc x.to)
    e
    f.5
    (omega arith)
    l
    (source_entry g₀ g x.to k v low c)
    ∙ ap (λ (R : Stored). moves_s (with_head R (marked (cleared h x.from) x.to (fingerprint_of k))) cs)
    (stored_entry g x.to k v (omega (arith, f.3)))
    ∙ ap₂
    (λ (p q : ℕ).
    moves_s (with_head (with_entry (stored_of g) x.to p q) (marked (cleared h x.from) x.to (fingerprint_of p))) cs)
    (sym own.0)
    (sym own.1)

-- ---- the fingerprints

-- of a slot that is no target
copy_print : (g₀ : ℕ → ℕ) (occ : ℕ → Bool) (cs : List Copy) (h i t e : ℕ) → Fits occ i t e cs → e ≤ 14 → (q : ℕ) → occ q ≡ true
    → fingerprint_in (copy_head g₀ h cs) q ≡ fingerprint_in h q
copy_print g₀ occ [] h i t e f l q o = refl
copy_print g₀ occ (c ∷ cs) h i t e f l q o =
    let x : ℕ = fingerprint_of (g₀ (2 + 2 * c.from)) in
    let ne : q ≢ c.to = λ p. differ (sym o ∙ ap occ p ∙ f.4) in
    copy_print g₀ occ cs (marked (cleared h c.from) c.to x) (suc c.from) (suc c.to) e f.5 l q o
    ∙ fingerprint_marked_other (cleared h c.from) c.to x (omega (arith, f.3)) (fingerprint_lt (g₀ (2 + 2 * c.from)))
    q
    ne
    ∙ fingerprint_cleared h c.from (omega (arith, f.1)) q

-- in word 1, whatever word 0 is
print_high : (l m h s : ℕ) → 6 ≤ s → l < 2 ^ 64 → m < 2 ^ 64 → fingerprint_in (whole m h) s ≡ fingerprint_in (whole l h) s
unfolding fingerprint_in field
print_high l m h s b x y =
    let e : 16 + 8 * s ≡ 64 + (8 * s - 48) = omega arith in
    rw (e, ← shr-shr (whole l h) 64 (8 * s - 48), ← shr-shr (whole m h) 64 (8 * s - 48), high h 64 x, high h 64 y)

-- the header with the new entry, and the block's words after the whole put
abbrev pub new_head : (ℕ → ℕ) → ℕ → ℕ → ℕ
new_head g s k = marked (head_of g) s (fingerprint_of k)

abbrev pub moved_words : (ℕ → ℕ) → ℕ → ℕ → ℕ → List Copy → ℕ → ℕ → ℕ → ℕ
moved_words g s k v cs low high = put_head (copy_words g (put_entry g s k v) cs) low high

module _ (g : ℕ → ℕ) (s k : ℕ) (cs : List Copy) (e low high : ℕ) (past : 3 ≤ s) (slot : s < 14) (end : e ≤ 14)
    (fits : Fits (occ_in (head_of g)) 0 (suc s) e cs) (head : whole low high ≡ copy_head g (new_head g s k) cs) where
  pub leaf_moved : (v : ℕ) → leaf_of (moved_words g s k v cs low high) ≡ moves (insert (leaf_of g) s k v) cs
  leaf_moved v =
      ap read_of
      (stored_head (copy_words g (put_entry g s k v) cs) low high
      ∙ ap (with_head (stored_of (copy_words g (put_entry g s k v) cs))) head
      ∙ stored_copies g (occ_in (head_of g)) cs (put_entry g s k v) (new_head g s k) 0 (suc s) e fits (omega arith) end
      (source_entry g g s k v past (λ j o. (refl, refl)))
      ∙ ap (λ (R : Stored). moves_s (with_head R (new_head g s k)) cs) (stored_entry g s k v slot))
      ∙ read_moves (occ_in (head_of g)) cs (insert_s (stored_of g) s k v) 0 (suc s) e fits end
      ∙ ap (λ (L : Leaf). moves L cs) (read_insert (stored_of g) s slot k v)

  -- word 1 changes in vacant slots' fingerprints only
  pub prints_unused : occ_in (head_of g) s ≡ false → g 0 < 2 ^ 64 → low < 2 ^ 64 → Unused g 1 high
  prints_unused vacant small less =
      of_prints refl (λ t h. elim (dec_lt t 6) [
        | yes a ↦ print_low (g 0) (g 1) high t a
        | no a ↦ let ne : t ≢ s = λ q. differ (sym h ∙ ap (occ_in (head_of g)) q ∙ vacant) in
            print_high low (g 0) high t (omega arith) less small
            ∙ ap (λ (x : ℕ). fingerprint_in x t) head
            ∙ copy_print g (occ_in (head_of g)) cs (new_head g s k) 0 (suc s) e fits end t h
            ∙ fingerprint_marked_other (head_of g) s (fingerprint_of k) slot (fingerprint_lt k) t ne
      ])

-- ---- the image

abbrev pub moved_image : (ℕ → ℕ) → ℕ → ℕ → ℕ → ℕ → List Copy → ℕ → ℕ → ℕ → ℕ
moved_image w b s k v cs low high =
    upd
    (upd (copy_image (block w b) b (upd (upd w (32 * b + (2 + 2 * s)) k) (32 * b + (3 + 2 * s)) v) cs) (32 * b + 1) high)
    (32 * b + 0)
    low

-- the entry k, v put into the vacant slot s of the target b, with the copies cs of line 0 into slots behind s
pub record Moving (w : ℕ → ℕ) (N : ℕ) (xs : List ℕ) (b : ℕ) (ys : List ℕ) (s k : ℕ) (cs : List Copy)
    (low high : ℕ) : Type 0 where
  pub sound : Sound (view w) N (xs ++ (b ∷ ys))
  pub target : Target (view w) b ys k
  pub absent : Absent (view w b) k
  pub slot : s < 14
  pub past : 3 ≤ s
  pub vacant : (view w b).occ s ≡ false
  pub line : (j : ℕ) → j < 3 → Taken (view w b) j
  pub fits : Fits (occ_in (head_of (block w b))) 0 (suc s) 14 cs
  pub head : whole low high ≡ copy_head (block w b) (new_head (block w b) s k) cs

module _ {w : ℕ → ℕ} {N : ℕ} {xs : List ℕ} {b : ℕ} {ys : List ℕ} {s k : ℕ} {cs : List Copy} {low high : ℕ}
    (P : Moving w N xs b ys s k cs low high) where
  -- the store of word 1 is to an unused place
  pub moved_prints : block w b 0 < 2 ^ 64 → low < 2 ^ 64 → Unused (block w b) 1 high
  unfolding view
  moved_prints =
      prints_unused (block w b) s k cs 14 low high P.past P.slot (omega arith) P.fits P.head P.vacant

  module _ (v : ℕ) where
    moved_only : Only w (moved_image w b s k v cs low high) b (moved_words (block w b) s k v cs low high)
    moved_only =
        only_store
        (only_store
        (only_copies (block w b) w b (occ_in (head_of (block w b))) cs _ (put_entry (block w b) s k v) 0 (suc s) 14 P.fits
        (omega arith)
        (only_store (only_store (only_refl w b) (2 + 2 * s) k (omega (arith, P.slot))) (3 + 2 * s) v (omega (arith, P.slot))))
        1
        high
        (omega arith))
        0
        low
        (omega arith)

    moved_view : view (moved_image w b s k v cs low high) b ≡ moves (insert (view w b) s k v) cs
    unfolding view
    moved_view =
        only_view moved_only
        ∙ leaf_moved (block w b) s k cs 14 low high P.past P.slot (omega arith) P.fits P.head v

    moved : Changed (view w) (view (moved_image w b s k v cs low high)) N (xs ++ (b ∷ ys)) (xs ++ (b ∷ ys)) k (λ u. u ≡ v)
        × (count (view (moved_image w b s k v cs low high) b) ≡ suc (count (view w b)))
    unfolding view
    moved =
        put_moved (view w) (view (moved_image w b s k v cs low high)) N xs b ys P.sound (only_others moved_only)
        (ap (λ (L : Leaf). L.lock) moved_view ∙ (moves_rest cs (insert (view w b) s k v)).0)
        (ap (λ (L : Leaf). L.next) moved_view ∙ (moves_rest cs (insert (view w b) s k v)).1)
        k
        v
        P.target
        P.absent
        s
        P.slot
        P.vacant
        cs
        14
        P.line
        P.past
        (omega arith)
        P.fits
        (slots_eq _ _ moved_view)

    pub moved_words_lem : Changed (view w) (view (moved_image w b s k v cs low high)) N (xs ++ (b ∷ ys)) (xs ++ (b ∷ ys)) k
        (λ u. u ≡ v)
    moved_words_lem = moved.0

    pub moved_words_count : count (view (moved_image w b s k v cs low high) b) ≡ suc (count (view w b))
    moved_words_count = moved.1
