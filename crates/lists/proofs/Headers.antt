-- The two words of a header that was marked, cleared or flipped: both are words, and where only bits and fingerprints
-- of word 0 changed, word 1 is as it was.
use Rattle.std.specs.Prelude.{ℕ, suc, ◌+◌, ◌-◌, ◌*◌, ◌^◌, ◌≤◌, ◌<◌, Bool, List, [], ◌∷◌, ◌≡◌, length}
use Rattle.std.proofs.Common.{div-add-mod', arith, sym, ap, ◌∙◌, shr_lt, lit<, lit≤}
use Rattle.std.proofs.Math.Arith.{digits_lt}
use Rattle.header.specs.Fields.{field, patched}
use Rattle.header.proofs.FieldLaws.{patched_lt}
use Rattle.header.specs.Header.{whole, marked, cleared, flipped, fingerprint_of, cleared_all}
use Rattle.header.proofs.HeaderLaws.{fingerprint_lt}
use Rattle.header.proofs.HeaderCode.{cleared_low, marked_low, flipped_low}
use Rattle.leaf.specs.Leaf.{Leaf}
use Rattle.image.specs.Chain.{All}
use Rattle.image.specs.Copies.{Copy}
use Rattle.image.proofs.EditMaps.{Fits}
use Rattle.lists.specs.Lists.{low_word, high_word, copied_head}
use Rattle.lists.specs.FullLists.{marked_from}

pub two_words : (n : ℕ) → whole (low_word n) (high_word n) ≡ n
two_words n = div-add-mod' n (2 ^ 64)

pub low_small : (n : ℕ) → low_word n < 2 ^ 64
low_small n = omega arith

-- ---- word 1 stays

-- n has the word 1 h
pub record Under (n h : ℕ) : Type 0 where
  pub low : ℕ
  pub small : low < 2 ^ 64
  pub is : n ≡ whole low h

pub under_low : (n h : ℕ) → Under n h → whole (low_word n) h ≡ n
under_low n h u = let e : n ≡ h * 2 ^ 64 + u.low = u.is in omega arith

pub under_cleared : (n h s : ℕ) → s < 14 → Under n h → Under (cleared n s) h
under_cleared n h s l u = record {
  low = patched u.low s 1 0;
  small = patched_lt u.low s 1 0 64 u.small (omega arith) (lit< tt);
  is = ap (λ (x : ℕ). cleared x s) u.is ∙ sym (cleared_low u.low h s u.small l);
}

pub under_marked : (n h s k : ℕ) → s < 6 → Under n h → Under (marked n s (fingerprint_of k)) h
under_marked n h s k l u = record {
  low = patched (patched u.low s 1 1) (16 + 8 * s) 8 (fingerprint_of k);
  small =
      patched_lt (patched u.low s 1 1) (16 + 8 * s) 8 (fingerprint_of k) 64
      (patched_lt u.low s 1 1 64 u.small (omega arith) (lit< tt)) (omega arith) (fingerprint_lt k);
  is = ap (λ (x : ℕ). marked x s (fingerprint_of k)) u.is
      ∙ sym (marked_low u.low h s u.small (omega arith) (fingerprint_of k) l);
}

pub under_flipped : (n h : ℕ) → Under n h → Under (flipped n) h
under_flipped n h u = record {
  low = patched u.low 15 1 (1 - field u.low 15 1);
  small = patched_lt u.low 15 1 (1 - field u.low 15 1) 64 u.small (lit≤ tt) (omega arith);
  is = ap flipped u.is ∙ sym (flipped_low u.low h u.small);
}

pub under_all : (ss : List ℕ) (n h : ℕ) → All (λ s. s < 14) ss → Under n h → Under (cleared_all n ss) h
under_all [] n h a u = u
under_all (s ∷ ss) n h a u = under_all ss (cleared n s) h a.1 (under_cleared n h s a.0 u)

-- ---- both are words

-- a header has two words
abbrev pub Fit : ℕ → Type 0
Fit n = n < 2 ^ 128

pub whole_fit : (l h : ℕ) → l < 2 ^ 64 → h < 2 ^ 64 → Fit (whole l h)
whole_fit l h a b = digits_lt b a

pub high_small : (n : ℕ) → Fit n → high_word n < 2 ^ 64
high_small n f = shr_lt 64 64 f

pub fit_marked : (n s k : ℕ) → s < 14 → Fit n → Fit (marked n s (fingerprint_of k))
unfolding marked
fit_marked n s k l f =
    patched_lt (patched n s 1 1) (16 + 8 * s) 8 (fingerprint_of k) 128 (patched_lt n s 1 1 128 f (omega arith) (lit< tt)) (omega arith)
    (fingerprint_lt k)

fit_cleared : (n s : ℕ) → s < 14 → Fit n → Fit (cleared n s)
unfolding cleared
fit_cleared n s l f = patched_lt n s 1 0 128 f (omega arith) (lit< tt)

pub fit_copied : (L : Leaf) (occ : ℕ → Bool) (cs : List Copy) (n i t e : ℕ) → Fits occ i t e cs → e ≤ 14 → Fit n
    → Fit (copied_head L n cs)
fit_copied L occ [] n i t e f l h = h
fit_copied L occ (c ∷ cs) n i t e f l h =
    fit_copied L occ cs _ (suc c.from) (suc c.to) e f.5 l
    (fit_marked (cleared n c.from) c.to (L.key c.from) (omega (arith, f.3))
    (fit_cleared n c.from (omega (arith, f.1)) h))

pub fit_from : (L : Leaf) (ss : List ℕ) (n t : ℕ) → t + length ss ≤ 14 → Fit n → Fit (marked_from L n t ss)
fit_from L [] n t l f = f
fit_from L (s ∷ ss) n t l f =
    fit_from L ss (marked n t (fingerprint_of (L.key s))) (suc t) (omega arith) (fit_marked n t (L.key s) (omega arith) f)
