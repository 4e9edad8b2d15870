-- The put into a full leaf, whole.
use Rattle.std.specs.Prelude.{ℕ, ◌+◌, ◌≤◌, ◌<◌, Bool, true, ◌≢◌, ◌≡◌, ltb, take, drop, get_or}
use Rattle.std.proofs.Common.{arith, subst, ◌∙◌, length-take, length-drop, take_all, get_or-drop}
use Rattle.std.proofs.Math.Bool.{false}
use mathlib.Core.List.{List, [], ◌∷◌, ◌++◌, append-nil}
use Rattle.std.proofs.Math.Path.{refl, sym, ap, ap₂}
use Rattle.std.proofs.Math.ListN.{length, length-append}
use Rattle.header.specs.Header.{flipped, cleared_all}
use Rattle.leaf.specs.Leaf.{Leaf, Right, leaf_in, view}
use Rattle.leaf.specs.Search.{count}
use Rattle.steps.specs.declared.Step.{Step}
use Rattle.steps.specs.Encoding.{written}
use Rattle.image.specs.Order.{slots_from, slots_of}
use Rattle.image.proofs.Order.{slots_count}
use Rattle.order.specs.Insertion.{Ordered, slots_below}
use Rattle.lists.specs.Lists.{head_in, plain_put}
use Rattle.lists.specs.FullLists.{moved_slots, first_key, goes_up, split_list, put_below, full_put}
use Rattle.lists.proofs.FullPut.{moved}
use Rattle.lists.specs.Served.{Small}
use Rattle.lists.proofs.Sizes.{split_length}
use Rattle.lists.proofs.AfterSplit.{plain_after}
use Rattle.emit.specs.Appended.{appended, Wrote, appended_written}
use Rattle.split.specs.Stores.{switched_same}

-- of any image that has the leaf L with the header h as block b, and another block c
pub record HasLeaf (h : ℕ) (L : Leaf) (b c : ℕ) (w : ℕ → ℕ) : Type 0 where
  pub head : head_in w b ≡ h
  pub leaf : view w b ≡ L
  pub words : Small w
  pub apart : b ≢ c

-- .. the list is written, and r tells its length
abbrev pub FullPut : ℕ → Leaf → ℕ → ℕ → ℕ → ℕ → List ℕ → List ℕ → ℕ → Type 0
FullPut h L b c k v before behind r =
    (w : ℕ → ℕ) → HasLeaf h L b c w → (behind ≡ written (full_put w b c k v) before) × (r ≡ length (full_put w b c k v))

-- the upper half of all fourteen in rising order
pub upper_are : (l : List ℕ) → Right (leaf_in l) → count (leaf_in l) ≡ 14 → (n : ℕ) (order : List ℕ)
    → Ordered (leaf_in l) 0 n order
    → (take 7 (drop 7 order) ≡ moved_slots (leaf_in l)) × ((i : ℕ) → get_or (take 7 (drop 7 order)) i 0 < 14)
unfolding moved_slots slots_of leaf_in
upper_are l right full n order h =
    let all : length order ≤ n =
    omega (arith, length-take n order, ap (λ (ss : List ℕ). length ss) h.first, slots_count (leaf_in l) right) in
    let o : order ≡ slots_from (leaf_in l) 14 0 = sym (take_all n order all) ∙ h.first in
    let half : take 7 (drop 7 order) ≡ drop 7 order = take_all 7 (drop 7 order) (omega (arith, length-drop 7 order)) in (
      half ∙ ap (drop 7) o,
      λ i. rw (half, get_or-drop 7 order i 0, o) (slots_below l right 0 (7 + i)),
    )

-- whether the new key goes up, by the first of them
pub up_is : (L : Leaf) (ss : List ℕ) (k x : ℕ) → length ss ≡ 7 → ss ≡ moved_slots L → x ≡ L.key (get_or ss 0 0)
    → ltb x k ≡ goes_up L k
unfolding goes_up
up_is L [] k x n e q = absurd (omega (arith, n))
up_is L (s ∷ ss) k x n e q =
    ap (λ (y : ℕ). ltb y k) q ∙ ap (λ (r : List ℕ). ltb (first_key L r) k) e

module _ (h : ℕ) (L : Leaf) (b c k v : ℕ) (before : List ℕ) (room : 112 ≤ length before)
    (right : Right L) (full : count L ≡ 14) where
  long : (w : ℕ → ℕ) → view w b ≡ L → length (split_list w b c k v) ≡ 42
  long w e =
      split_length w b c k v ∙ omega (arith, ap (λ (M : Leaf). length (moved_slots M)) e, (moved L right full).seven)

  pub full_up : (l : List ℕ) → goes_up L k ≡ true → ((w : ℕ → ℕ) → head_in w b ≡ h → view w b ≡ L
      → l ≡ written (split_list w b c k v) before)
      → FullPut h L b c k v before l 42
  unfolding full_put
  full_up l u f = λ w y.
      let e : split_list w b c k v ≡ full_put w b c k v =
      sym (append-nil (split_list w b c k v))
      ∙ ap (λ (t : Bool). split_list w b c k v ++ put_below t w b c k v)
      (sym u ∙ ap (λ (M : Leaf). goes_up M k) (sym y.leaf)) in (
        f w y.head y.leaf ∙ ap (λ (r : List Step). written r before) e,
        sym (long w y.leaf) ∙ ap (λ (r : List Step). length r) e,
      )

  pub full_below : (l1 l2 : List ℕ) (g n : ℕ) → goes_up L k ≡ false
      → ((w : ℕ → ℕ) → head_in w b ≡ h → view w b ≡ L → l1 ≡ written (split_list w b c k v) before)
      → g ≡ flipped (cleared_all h (moved_slots L)) → Wrote l1 42 (plain_put g L b k v) l2 n → FullPut h L b c k v before l2 (42 + n)
  unfolding full_put
  full_below l1 l2 g n u f eg x = λ w y.
      let S = split_list w b c k v in
      let P = put_below false w b c k v in
      let p : plain_put g L b k v ≡ P =
      ap₂ (λ (m : ℕ) (M : Leaf). plain_put m M b k v)
      (eg ∙ switched_same w b c k v h L (moved_slots L) y.head y.leaf refl)
      (sym y.leaf)
      ∙ sym (plain_after w y.words b c y.apart (subst Right (sym y.leaf) right) (ap count y.leaf ∙ full) k v) in
      let m : n ≡ length P = x.1 ∙ ap (λ (r : List Step). length r) p in
      let d = length-append S P in
      let q : S ++ P ≡ full_put w b c k v =
      ap (λ (t : Bool). S ++ put_below t w b c k v) (sym u ∙ ap (λ (M : Leaf). goes_up M k) (sym y.leaf)) in (
        x.0 ∙ ap₂ (λ (l : List ℕ) (r : List Step). appended l 42 r) (f w y.head y.leaf) p
            ∙ appended_written P S before 42 (sym (long w y.leaf)) (omega (arith, long w y.leaf, x.2))
            ∙ ap (λ (r : List Step). written r before) q,
        omega (arith, long w y.leaf, ap (λ (r : List Step). length r) q),
      )
