-- Set and del: lists of one store.
use Prim.Native.Nat.{ℕ, ◌+◌, ◌*◌, ◌^◌, ◌≤◌, ◌<◌}
use native.Mathlib.Omega.{arith}
use Rattle.std.proofs.Math.Decide.{dec_lt, ℕ_discrete}
use Rattle.std.specs.Prelude.{cond, not, ◌≡◌, ◌⊎◌, ◌≢◌, eqb}
use mathlib.Core.List.{List, [], ◌∷◌, ◌++◌, append_assoc}
use Rattle.std.proofs.Math.Path.{refl}
use Rattle.std.proofs.Common.{sym, ap, ◌∙◌, inl, inr, lit<, eqb-true, eq-eqb, ne_eqb}
use Rattle.std.proofs.lemmas.Bool.{eqb-false, not-true}
use Rattle.words.specs.Bools.{by_test, both_true, differ}
use Rattle.words.specs.Update.{upd}
use Rattle.words.specs.Below.{count_below}
use Rattle.header.specs.Header.{whole, alt_in, cleared}
use Rattle.header.proofs.HeaderLaws.{alt_lt}
use Rattle.leaf.specs.Leaf.{Leaf, Taken, block, view}
use Rattle.leaf.proofs.LeafLaws.{block_at, block_past}
use Rattle.leaf.specs.Search.{count}
use Rattle.steps.specs.Model.{Rule, line}
use Rattle.steps.proofs.Settling.{Lawful}
use Rattle.steps.proofs.Rules.{lines_in_lines}
use Rattle.steps.specs.Shapes.{one_store}
use Rattle.steps.proofs.Shapes.{one_line_section}
use Rattle.image.specs.Map.{put_in, without}
use Rattle.image.specs.Chain.{Sound}
use Rattle.image.proofs.ChainLaws.{all_split}
use Rattle.image.proofs.ChainSize.{chain_near}
use Rattle.image.specs.Kept.{Harmless}
use Rattle.image.proofs.Stretch.{part_good}
use Rattle.image.proofs.Blocks.{view_slot, only_others}
use Rattle.image.proofs.CountLaws.{filled_count}
use Rattle.image.specs.Entries.{list_of}
use Rattle.image.specs.Potential.{phi}
use Rattle.image.proofs.PotentialLaws.{phi_fewer, phi_unlink}
use Rattle.image.proofs.WordCalls.{set_words, del_words, unlink_words, set_only, del_only, set_words_lem, set_count, del_words_lem}
use Rattle.image.proofs.WordCalls.{del_count, unlink_only, unlink_view, unlink_words_lem}
use Rattle.image.proofs.Answers.{put_list_lem, del_list_lem}
use Rattle.lists.specs.Lists.{word_place, val_place, sib_place, low_word, head_in, set_list, unlink_list, clear_list}
use Rattle.lists.specs.Lists.{is_alone, del_list}
use Rattle.lists.specs.Served.{per_change, Small, Served}
use Rattle.lists.proofs.Headers.{low_small, under_low, under_cleared}
use Rattle.lists.proofs.Joined.{section_served}
use Rattle.lists.specs.SetDel.{Behind}

module _ (rule : Rule) (L : Lawful rule) (w : ℕ → ℕ) (N : ℕ) (bs : List ℕ) (S : Sound (view w) N bs) where
  -- one store, after which the image is right and its potential no higher
  one_served : (p v : ℕ) → p < 32 * N → v < 2 ^ 64 → (cs : List ℕ) → Sound (view (upd w p v)) N cs
      → phi (view (upd w p v)) cs ≤ phi (view w) bs
      → Served rule w N bs (one_store p v) (list_of (view (upd w p v)) cs) per_change
  unfolding count_below
  one_served p v inside small cs sound less =
      section_served rule L w N bs S (one_store p v) (list_of (view (upd w p v)) cs) per_change
      ((inside, small), (omega arith, (tt, tt)))
      (one_line_section line lines_in_lines rule L (Harmless w bs) [] p v tt)
      (upd w p v)
      refl
      (record { chain = cs; sound = sound; list = refl; few = omega arith; fair = omega arith; pays = omega arith })

-- a word of a chained block is inside the image, and small
pub block_small : (w : ℕ → ℕ) → Small w → (b i : ℕ) → block w b i < 2 ^ 64
block_small w small b i =
    elim (dec_lt i 32) [ yes h ↦ rw (block_at w b i h) (small (32 * b + i)) | no h ↦ rw (block_past w b i (omega arith)) (lit< tt) ]

pub near_block : (I : ℕ → Leaf) (N : ℕ) (xs : List ℕ) (b : ℕ) (ys : List ℕ) → Sound I N (xs ++ (b ∷ ys)) → 0 < N → b < N
near_block I N xs b ys S some = (all_split (λ b. b < N) xs (b ∷ ys) (chain_near I N (xs ++ (b ∷ ys)) S some)).1.0

module _ (rule : Rule) (L : Lawful rule) (w : ℕ → ℕ) (small : Small w) (N : ℕ) (some : 0 < N) where
  module _ (xs : List ℕ) (b : ℕ) (ys : List ℕ) (S : Sound (view w) N (xs ++ (b ∷ ys))) (s : ℕ) (taken : Taken (view w b) s) where
    slot : s < 14
    slot = view_slot w b s taken

    inside : b < N
    inside = near_block (view w) N xs b ys S some

    pub set_served : (v : ℕ) → v < 2 ^ 64
        → Served rule w N (xs ++ (b ∷ ys)) (set_list b s v) (put_in ((view w b).key s) v (list_of (view w) (xs ++ (b ∷ ys)))) per_change
    unfolding set_list
    set_served v h =
        let c = set_words_lem w N xs b ys S s v taken in
        rw (← (put_list_lem (view w) (view (set_words w b s v)) N (xs ++ (b ∷ ys)) (xs ++ (b ∷ ys)) S ((view w b).key s) v c))
        (one_served rule L w N (xs ++ (b ∷ ys)) S (val_place b s) v (omega (arith, slot, inside)) h (xs ++ (b ∷ ys)) c.sound
        (phi_fewer 6 7 (view w) (view (set_words w b s v)) N xs b ys S (only_others (set_only w b s v slot))
        (omega (arith, set_count w N xs b ys S s v taken))))

    head : whole (low_word (cleared (head_in w b) s)) (block w b 1) ≡ cleared (head_in w b) s
    head =
        under_low (cleared (head_in w b) s) (block w b 1)
        (under_cleared (head_in w b) (block w b 1) s slot
        (record { low = block w b 0; small = block_small w small b 0; is = refl }))

    pub clear_served : (b ≡ 0) ⊎ (1 < count (view w b))
        → Served rule w N (xs ++ (b ∷ ys)) (clear_list w b s) (without ((view w b).key s) (list_of (view w) (xs ++ (b ∷ ys)))) per_change
    unfolding clear_list
    clear_served more =
        let c = del_words_lem w N xs b ys S s low taken head more in
        rw (← (del_list_lem (view w) (view (del_words w b low)) N (xs ++ (b ∷ ys)) (xs ++ (b ∷ ys)) S ((view w b).key s) c))
        (one_served rule L w N (xs ++ (b ∷ ys)) S (word_place b 0) low (omega (arith, inside)) (low_small (cleared (head_in w b) s))
        (xs ++ (b ∷ ys))
        c.sound
        (phi_fewer 6 7 (view w) (view (del_words w b low)) N xs b ys S (only_others (del_only w b low))
        (omega (arith, del_count w N xs b ys S s low taken head))))
      where
        low : ℕ
        low = low_word (cleared (head_in w b) s)

  pub unlink_served : (xs : List ℕ) (p b : ℕ) (ys : List ℕ) → Sound (view w) N (xs ++ (p ∷ b ∷ ys)) → (s : ℕ)
      → Taken (view w b) s → count (view w b) ≡ 1
      → Served rule w N (xs ++ (p ∷ b ∷ ys)) (unlink_list w p b)
      (without ((view w b).key s) (list_of (view w) (xs ++ (p ∷ b ∷ ys)))) per_change
  unfolding unlink_list view
  unlink_served xs p b ys S s taken alone =
      let c = unlink_words_lem w N xs p b ys S s taken alone in
      rw (← (del_list_lem (view w) (view (unlink_words w p b)) N (xs ++ (p ∷ b ∷ ys)) (xs ++ (p ∷ ys)) S ((view w b).key s) c))
      (one_served rule L w N (xs ++ (p ∷ b ∷ ys)) S (sib_place p (alt_in (head_in w p))) (view w b).next
      (omega (arith, near_block (view w) N xs p (b ∷ ys) S some, alt_lt (head_in w p)))
      (block_small w small b (30 + alt_in (head_in w b)))
      (xs ++ (p ∷ ys))
      c.sound
      (phi_unlink 6 7 (view w) (view (unlink_words w p b)) N xs p b ys S (only_others (unlink_only w p b))
      (unlink_view w p b).slots))

pub del_served : (rule : Rule) → Lawful rule → (w : ℕ → ℕ) → Small w → (N : ℕ) → 0 < N
    → (xs : List ℕ) (p b : ℕ) (ys : List ℕ) → Sound (view w) N (xs ++ (b ∷ ys)) → (b ≢ 0 → Behind xs p)
    → (s : ℕ) → Taken (view w b) s
    → Served rule w N (xs ++ (b ∷ ys)) (del_list w p b s) (without ((view w b).key s) (list_of (view w) (xs ++ (b ∷ ys)))) per_change
unfolding del_list is_alone
del_served rule L w small N some xs p b ys S before s taken =
    by_test
    (λ t. Served rule w N (xs ++ (b ∷ ys)) (cond t (unlink_list w p b) (clear_list w b s))
    (without ((view w b).key s) (list_of (view w) (xs ++ (b ∷ ys)))) per_change)
    (is_alone w b)
    (λ e.
    let x = both_true (not (eqb b 0)) (eqb (count (view w b)) 1) e in
    let y : Behind xs p = before (eqb-false b 0 (not-true (eqb b 0) x.0)) in
    let q : xs ++ (b ∷ ys) ≡ y.init ++ (p ∷ b ∷ ys) =
    ap (λ (l : List ℕ). l ++ (b ∷ ys)) y.is ∙ append_assoc y.init (p ∷ []) (b ∷ ys) in
    rw q
    (unlink_served rule L w small N some y.init p b ys (rw q at S) s taken (eqb-true (count (view w b)) 1 x.1)))
    (λ e.
    clear_served rule L w small N some xs b ys S s taken (elim (ℕ_discrete b 0) [
      | yes z ↦ inl z
      | no nz ↦ elim (ℕ_discrete (count (view w b)) 1) [
        | yes o ↦ differ (sym (rw (ne_eqb b 0 nz, eq-eqb (count (view w b)) 1 o) refl) ∙ e)
        | no o ↦ inr (omega (arith, filled nz))
      ]
    ]))
  where
    filled : b ≢ 0 → 0 < count (view w b)
    filled nz =
        let g = (part_good (view w) N xs (b ∷ []) ys S).0 in
        elim g.filled [ inl z ↦ absurd (nz z) | inr f ↦ filled_count (view w b) g.right f ]
