-- Words stored one after another, and the stretches of a split put together.
use Prim.Native.Nat.{ℕ, suc, ◌+◌, ◌-◌, ◌*◌, ◌≤◌, ◌<◌}
use native.Mathlib.Omega.{arith}
use Rattle.std.specs.Prelude.{Bool, cond, ◌≡◌, refl, get_or, take, replicate}
use mathlib.Core.List.{List, [], ◌∷◌, ◌++◌, append_assoc}
use Rattle.std.proofs.Common.{sym, ◌∙◌}
use Rattle.std.proofs.Math.Path.{ap, ap₂}
use Rattle.std.proofs.Math.ListN.{length, length-append}
use Rattle.std.proofs.lemmas.List.{length-replicate, replicate-append-replicate}
use Rattle.header.specs.Header.{alt_in, flipped, cleared_all}
use Rattle.leaf.specs.Leaf.{Leaf, view}
use Rattle.steps.specs.declared.Step.{Step}
use Rattle.steps.specs.declared.Step.TheVariants.{Store as store, Fence as fence}
use Rattle.steps.specs.Encoding.{written, put_step}
use Rattle.steps.specs.Shapes.{one_store}
use Rattle.steps.specs.Stores.{stores_from}
use Rattle.steps.proofs.Stores.{stores_length}
use Rattle.lists.specs.Lists.{word_place, sib_place, low_word, high_word, head_in}
use Rattle.lists.specs.FullLists.{moved_slots, goes_up, new_header, entry_words, new_words, switched_head}
use Rattle.lists.specs.FullLists.{split_stores, split_backs, split_list}
use Rattle.lists.proofs.Sizes.{new_length, split_length, entry_length}
use Rattle.emit.specs.Appended.{appended, appended_start, step_first, stretch_more}
use Rattle.split.specs.Heads.{entries_more, taken_length}

stores_append : (q : ℕ) (vs ws : List ℕ) → stores_from q (vs ++ ws) ≡ stores_from q vs ++ stores_from (q + length vs) ws
stores_append q [] ws = let e : q ≡ q + 0 = omega arith in ap (λ (p : ℕ). stores_from p ws) e
stores_append q (v ∷ vs) ws =
    let e : suc q + length vs ≡ q + suc (length vs) = omega arith in
    ap (λ (r : List Step). store q v ∷ r) (stores_append (suc q) vs ws
    ∙ ap (λ (p : ℕ). stores_from (suc q) vs ++ stores_from p ws) e)

-- more words behind those stored
pub stores_more : (list m r : List ℕ) (i j p q : ℕ) (vs ws : List ℕ) → m ≡ appended list i (stores_from p vs)
    → j ≡ i + length vs
    → q ≡ p + length vs → r ≡ appended m j (stores_from q ws) → r ≡ appended list i (stores_from p (vs ++ ws))
stores_more list m r i j p q vs ws e a b f =
    stretch_more list m i j (stores_from p vs) e (omega (arith, stores_length p vs)) r (stores_from q ws) f
    ∙ ap (appended list i)
    (ap (λ (x : ℕ). stores_from p vs ++ stores_from x ws) b ∙ sym (stores_append p vs ws))

-- ---- one turn more of the loops

pub zeros_more : (list m r : List ℕ) (at p i : ℕ) → m ≡ appended list at (stores_from p (replicate i 0))
    → r ≡ put_step m (at + i) (store (p + i) 0) → r ≡ appended list at (stores_from p (replicate (i + 1) 0))
zeros_more list m r at p i e f =
    let n : length (replicate i 0) ≡ i = length-replicate {A = ℕ} i 0 in
    rw (← replicate-append-replicate {A = ℕ} i 1 0)
    (stores_more list m r at (at + i) p (p + i) (replicate i 0) (0 ∷ []) e (omega arith) (omega arith)
    (step_first m r (at + i) (store (p + i) 0) f))

pub entries_next : (list m r : List ℕ) (at p i : ℕ) (L : Leaf) (ss : List ℕ) (k v : ℕ) → i < length ss
    → m ≡ appended list at (stores_from p (entry_words L (take i ss)))
    → k ≡ L.key (get_or ss i 0) → v ≡ L.val (get_or ss i 0)
    → r ≡ appended m (at + 2 * i) (stores_from (p + 2 * i) (k ∷ v ∷ []))
    → r ≡ appended list at (stores_from p (entry_words L (take (i + 1) ss)))
entries_next list m r at p i L ss k v h e ek ev f =
    let n : length (entry_words L (take i ss)) ≡ 2 * i = entry_length L (take i ss) ∙ omega (arith, taken_length ss i h) in
    rw (entries_more ss i h L, ← ek, ← ev)
    (stores_more list m r at (at + 2 * i) p (p + 2 * i) (entry_words L (take i ss)) (k ∷ v ∷ []) e (omega arith) (omega arith) f)

-- ---- the new leaf

pub new_leaf_lem : (l0 l1 l2 l3 : List ℕ) (p q r : ℕ) (up : Bool) (L : Leaf) (ss : List ℕ) (k v h x y n : ℕ) → length ss ≡ 7
    → q ≡ p + 16 → r ≡ p + 30
    → l1 ≡ appended l0 0 (stores_from p (low_word h ∷ high_word h ∷ (replicate 12 0 ++ (x ∷ y ∷ []))))
    → l2 ≡ appended l1 16 (stores_from q (entry_words L ss)) → l3 ≡ appended l2 30 (stores_from r (n ∷ 0 ∷ []))
    → h ≡ new_header up L ss k → x ≡ cond up k 0 → y ≡ cond up v 0 → n ≡ L.next
    → l3 ≡ appended l0 0 (stores_from p (new_words up L ss k v))
new_leaf_lem l0 l1 l2 l3 p q r up L ss k v h x y n seven eq er e1 e2 e3 eh ex ey en =
    let low = low_word h ∷ high_word h ∷ (replicate 12 0 ++ (x ∷ y ∷ [])) in
    stores_more l0 l2 l3 0 30 p r (low ++ entry_words L ss) (n ∷ 0 ∷ [])
    (stores_more l0 l1 l2 0 16 p q low (entry_words L ss) e1 refl eq e2)
    (omega (arith, entry_length L ss))
    (omega (arith, entry_length L ss))
    e3
    ∙ ap₂ (λ (g m : ℕ). appended l0 0 (stores_from p
    (low_word g ∷ high_word g ∷ (replicate 12 0 ++ (x ∷ y ∷ (entry_words L ss ++ (m ∷ 0 ∷ [])))))))
    eh en
    ∙ ap₂ (λ (s t : ℕ).
    appended l0 0 (stores_from p (low_word (new_header up L ss k) ∷ high_word (new_header up L ss k)
    ∷ (replicate 12 0 ++ (s ∷ t ∷ (entry_words L ss ++ (L.next ∷ 0 ∷ [])))))))
    ex ey

-- ---- the split

module _ (w : ℕ → ℕ) (b c k v : ℕ) where
  -- the words of the new leaf and the switched header, by the leaf at hand
  pub words_same : (up : Bool) (L : Leaf) (ss : List ℕ) → view w b ≡ L → ss ≡ moved_slots L → up ≡ goes_up L k
      → new_words up L ss k v ≡ new_words (goes_up (view w b) k) (view w b) (moved_slots (view w b)) k v
  words_same up L ss e f g =
      ap₂ (λ (u : Bool) (s : List ℕ). new_words u L s k v) g f
      ∙ ap (λ (M : Leaf). new_words (goes_up M k) M (moved_slots M) k v) (sym e)

  pub switched_same : (h : ℕ) (L : Leaf) (ss : List ℕ) → head_in w b ≡ h → view w b ≡ L → ss ≡ moved_slots L
      → flipped (cleared_all h ss) ≡ switched_head w b
  switched_same h L ss q e f =
      ap₂ (λ (n : ℕ) (s : List ℕ). flipped (cleared_all n s)) (sym q) (f ∙ ap moved_slots (sym e))

  pub split_whole : (l0 l1 l2 l3 l4 ws : List ℕ) (p q x : ℕ) → 84 ≤ length l0 → length (moved_slots (view w b)) ≡ 7
      → l1 ≡ appended l0 0 (stores_from (word_place c 0) ws)
      → ws ≡ new_words (goes_up (view w b) k) (view w b) (moved_slots (view w b)) k v
      → l2 ≡ put_step l1 32 (store q c) → q ≡ sib_place b (1 - alt_in (head_in w b))
      → l3 ≡ appended l2 33 (split_backs b c ++ fence ∷ [])
      → l4 ≡ appended l3 39 (one_store p x) → p ≡ word_place b 0 → x ≡ low_word (switched_head w b)
      → l4 ≡ written (split_list w b c k v) l0
  unfolding split_list
  split_whole l0 l1 l2 l3 l4 ws p q x room seven e1 ew e2 eq e3 e4 ep ex =
      let W = stores_from (word_place c 0) ws in
      let n : length W ≡ 32 =
      stores_length (word_place c 0) ws ∙ ap (λ (r : List ℕ). length r) ew
      ∙ new_length (goes_up (view w b) k) (view w b) (moved_slots (view w b)) k v ∙ omega (arith, seven) in
      let S = store q c ∷ [] in
      let B = split_backs b c ++ fence ∷ [] in
      stretch_more l0 l3 0 39 ((W ++ S) ++ B)
      (stretch_more l0 l2 0 33 (W ++ S) (stretch_more l0 l1 0 32 W e1 (omega (arith, n)) l2 S
      (step_first l1 l2 32 (store q c) e2))
      (omega (arith, length-append W S))
      l3
      B
      e3)
      (omega (arith, length-append W S, length-append (W ++ S) B))
      l4
      (one_store p x)
      e4
      ∙ ap (appended l0 0) (append_assoc (W ++ S) B (one_store p x))
      ∙ ap₂ (λ (r : List ℕ) (z : ℕ). appended l0 0
      ((stores_from (word_place c 0) r ++ (store z c ∷ [])) ++ (B ++ one_store p x))) ew eq
      ∙ ap₂ (λ (i y : ℕ). appended l0 0 (split_stores w b c k v ++ (B ++ one_store i y))) ep ex
      ∙ appended_start (split_list w b c k v) l0 (omega (arith, split_length w b c k v, seven))
