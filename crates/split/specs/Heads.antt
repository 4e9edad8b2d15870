-- One turn more of each loop over the moved slots: what the slots up to i + 1 make, from what those up to i make.
use Rattle.std.proofs.Common.{ℕ, suc, ◌+◌, ◌<◌, List, [], ◌∷◌, ◌++◌, ◌≡◌, refl, length, get_or, take, arith, length-take, ap, ◌∙◌}
use Rattle.std.proofs.lemmas.List.{take_more}
use Rattle.header.specs.Header.{marked, cleared, fingerprint_of, cleared_all}
use Rattle.leaf.specs.Leaf.{Leaf}
use Rattle.lists.specs.FullLists.{marked_from, entry_words}

marked_append : (L : Leaf) (h t : ℕ) (a : List ℕ) (s : ℕ)
    → marked_from L h t (a ++ s ∷ []) ≡ marked (marked_from L h t a) (t + length a) (fingerprint_of (L.key s))
marked_append L h t [] s = let e : t ≡ t + 0 = omega arith in ap (λ (u : ℕ). marked h u (fingerprint_of (L.key s))) e
marked_append L h t (x ∷ a) s =
    let e : suc t + length a ≡ t + suc (length a) = omega arith in
    marked_append L (marked h t (fingerprint_of (L.key x))) (suc t) a s
    ∙ ap (λ (u : ℕ). marked (marked_from L h t (x ∷ a)) u (fingerprint_of (L.key s))) e

cleared_append : (h : ℕ) (a : List ℕ) (s : ℕ) → cleared_all h (a ++ s ∷ []) ≡ cleared (cleared_all h a) s
cleared_append h [] s = refl
cleared_append h (x ∷ a) s = cleared_append (cleared h x) a s

entries_append : (L : Leaf) (a : List ℕ) (s : ℕ) → entry_words L (a ++ s ∷ []) ≡ entry_words L a ++ (L.key s ∷ L.val s ∷ [])
entries_append L [] s = refl
entries_append L (x ∷ a) s = ap (λ (r : List ℕ). L.key x ∷ L.val x ∷ r) (entries_append L a s)

pub taken_length : (ss : List ℕ) (i : ℕ) → i < length ss → length (take i ss) ≡ i
taken_length ss i h = omega (arith, length-take i ss)

module _ (ss : List ℕ) (i : ℕ) (h : i < length ss) where
  pub marked_more : (L : Leaf) (n t : ℕ)
      → marked_from L n t (take (i + 1) ss) ≡ marked (marked_from L n t (take i ss)) (t + i) (fingerprint_of (L.key (get_or ss i 0)))
  marked_more L n t =
      rw (take_more ss i 0 h, marked_append L n t (take i ss) (get_or ss i 0), taken_length ss i h)

  pub cleared_more : (n : ℕ) → cleared_all n (take (i + 1) ss) ≡ cleared (cleared_all n (take i ss)) (get_or ss i 0)
  cleared_more n = rw (take_more ss i 0 h) (cleared_append n (take i ss) (get_or ss i 0))

  pub entries_more : (L : Leaf) → entry_words L (take (i + 1) ss)
      ≡ entry_words L (take i ss) ++ (L.key (get_or ss i 0) ∷ L.val (get_or ss i 0) ∷ [])
  entries_more L = rw (take_more ss i 0 h) (entries_append L (take i ss) (get_or ss i 0))
