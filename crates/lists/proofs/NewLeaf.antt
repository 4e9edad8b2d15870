-- The split: the new leaf's words, and the list as one section.
use Rattle.std.specs.Prelude.{ℕ, zero, suc, ◌+◌, ◌*◌, ◌^◌, ◌≤◌, ◌<◌, Bool, true, false, cond, ◌≡◌, refl, ◌⊎◌, ◌≢◌, length, get_or, replicate}
use Rattle.std.proofs.Math.Decide.{dec_lt}
use Rattle.std.proofs.Common.{arith, ap, ◌∙◌, inl, inr}
use mathlib.Core.List.{List, [], ◌∷◌, ◌++◌}
use Rattle.std.proofs.Math.Dec.{lit<}
use Rattle.words.specs.Update.{upd, upd_same, upd_other}
use Rattle.header.specs.Header.{alt_in}
use Rattle.leaf.specs.Leaf.{view}
use Rattle.leaf.proofs.LeafLaws.{block_at, block_agree}
use Rattle.steps.specs.declared.Step.{Step}
use Rattle.steps.specs.declared.Step.TheVariants.{Store as store}
use Rattle.steps.specs.Lists.{Each, run_all}
use Rattle.steps.specs.Stores.{stores_from}
use Rattle.image.specs.Chain.{All}
use Rattle.image.proofs.ChainLaws.{all_join}
use Rattle.image.proofs.Stored.{Stored, insert_s}
use Rattle.image.proofs.WordSplit.{word_of, Placed, new_leaf}
use Rattle.lists.specs.Lists.{word_place, head_in}
use Rattle.lists.specs.FullLists.{new_header, marked_from, entry_words, new_words}
use Rattle.lists.specs.Served.{Small}
use Rattle.lists.proofs.Headers.{Fit, low_small, high_small, fit_marked, fit_from}
use Rattle.lists.proofs.SetDel.{block_small}

-- ---- words stored from a place on

-- those of f from i on
abbrev words_from : (ℕ → ℕ) → ℕ → ℕ → List ℕ
words_from f i zero = []
words_from f i (suc n) = f i ∷ words_from f (suc i) n

words_at : (f : ℕ → ℕ) (n i j : ℕ) → j < n → get_or (words_from f i n) j 0 ≡ f (i + j)
words_at f zero i j h = absurd (omega arith)
words_at f (suc n) i zero h = let e : i ≡ i + 0 = omega arith in ap f e
words_at f (suc n) i (suc j) h =
    let e : suc i + j ≡ i + suc j = omega arith in words_at f n (suc i) j (omega arith) ∙ ap f e

stores_out : (vs : List ℕ) (q p : ℕ) (m : ℕ → ℕ) → (p < q) ⊎ (q + length vs ≤ p) → run_all upd (stores_from q vs) m p ≡ m p
stores_out [] q p m h = refl
stores_out (v ∷ vs) q p m h =
    stores_out vs (suc q) p (upd m q v) (elim h [ inl a ↦ inl (omega arith) | inr a ↦ inr (omega arith) ])
    ∙ upd_other m q v p (elim h [ inl a ↦ omega arith | inr a ↦ omega arith ])

stores_in : (vs : List ℕ) (q i : ℕ) (m : ℕ → ℕ) → i < length vs → run_all upd (stores_from q vs) m (q + i) ≡ get_or vs i 0
stores_in [] q i m h = absurd (omega arith)
stores_in (v ∷ vs) q zero m h =
    let e : q + 0 ≡ q = omega arith in rw e (stores_out vs (suc q) q (upd m q v) (inl (omega arith)) ∙ upd_same m q v)
stores_in (v ∷ vs) q (suc i) m h =
    let e : q + suc i ≡ suc q + i = omega arith in rw e (stores_in vs (suc q) i (upd m q v) (omega arith))

pub placed_stores : (w : ℕ → ℕ) (c : ℕ) (f : ℕ → ℕ) (vs : List ℕ) → length vs ≡ 32 → ((i : ℕ) → i < 32 → get_or vs i 0 ≡ f i)
    → Placed w (run_all upd (stores_from (word_place c 0) vs) w) c f
placed_stores w c f vs n h = record {
  here = λ i l.
      let e : 32 * c + i ≡ 32 * c + 0 + i = omega arith in
      block_at m c i l ∙ ap m e ∙ stores_in vs (word_place c 0) i w (omega arith) ∙ h i l;
  elsewhere = λ d ne.
      block_agree w m d (λ i l. stores_out vs (word_place c 0) (32 * d + i) w (far d i ne l));
}
  where
    m : ℕ → ℕ
    m = run_all upd (stores_from (word_place c 0) vs) w

    far : (d i : ℕ) → d ≢ c → i < 32 → (32 * d + i < word_place c 0) ⊎ (word_place c 0 + length vs ≤ 32 * d + i)
    far d i ne l = elim (dec_lt (32 * d + i) (32 * c)) [ yes a ↦ inl (omega arith) | no a ↦ inr (omega arith) ]

pub stores_each : (P : Step → Type 0) (Q : ℕ → Type 0) (q : ℕ) (vs : List ℕ) → All Q vs
    → ((p v : ℕ) → q ≤ p → p < q + length vs → Q v → P (store p v)) → Each P (stores_from q vs)
stores_each P Q q [] a h = tt
stores_each P Q q (v ∷ vs) a h =
    (h q v (omega arith) (omega arith) a.0, stores_each P Q (suc q) vs a.1 (λ p v l k. h p v (omega arith) (omega arith)))

-- ---- the words of the new leaf

by_seven : (P : List ℕ → Type 0) → ((a b c d e f g : ℕ) → P (a ∷ b ∷ c ∷ d ∷ e ∷ f ∷ g ∷ [])) → (ss : List ℕ) → length ss ≡ 7
    → P ss
by_seven P h (a ∷ b ∷ c ∷ d ∷ e ∷ f ∷ g ∷ []) n = h a b c d e f g
by_seven P h [] n = absurd (omega arith)
by_seven P h (a ∷ []) n = absurd (omega arith)
by_seven P h (a ∷ b ∷ []) n = absurd (omega arith)
by_seven P h (a ∷ b ∷ c ∷ []) n = absurd (omega arith)
by_seven P h (a ∷ b ∷ c ∷ d ∷ []) n = absurd (omega arith)
by_seven P h (a ∷ b ∷ c ∷ d ∷ e ∷ []) n = absurd (omega arith)
by_seven P h (a ∷ b ∷ c ∷ d ∷ e ∷ f ∷ []) n = absurd (omega arith)
by_seven P h (a ∷ b ∷ c ∷ d ∷ e ∷ f ∷ g ∷ x ∷ l) n = absurd (omega arith)

-- the new leaf as it is stored
abbrev pub new_stored : Bool → (ℕ → ℕ) → ℕ → List ℕ → ℕ → ℕ → Stored
new_stored true w b ss k v = insert_s (new_leaf w b 7 ss) 6 k v
new_stored false w b ss k v = new_leaf w b 7 ss

new_words_lem : (up : Bool) (w : ℕ → ℕ) (b : ℕ) (ss : List ℕ) (k v : ℕ) → length ss ≡ 7
    → new_words up (view w b) ss k v ≡ words_from (word_of (new_stored up w b ss k v)) 0 32
unfolding word_of
new_words_lem true w b ss k v =
    by_seven (λ ss. new_words true (view w b) ss k v ≡ words_from (word_of (new_stored true w b ss k v)) 0 32)
    (λ a b c d e f g. refl)
    ss
new_words_lem false w b ss k v =
    by_seven (λ ss. new_words false (view w b) ss k v ≡ words_from (word_of (new_stored false w b ss k v)) 0 32)
    (λ a b c d e f g. refl)
    ss

pub new_word : (up : Bool) (w : ℕ → ℕ) (b : ℕ) (ss : List ℕ) (k v : ℕ) → length ss ≡ 7 → (i : ℕ) → i < 32
    → get_or (new_words up (view w b) ss k v) i 0 ≡ word_of (new_stored up w b ss k v) i
new_word up w b ss k v n i l =
    let e : 0 + i ≡ i = omega arith in
    ap (λ (l : List ℕ). get_or l i 0) (new_words_lem up w b ss k v n)
    ∙ words_at (word_of (new_stored up w b ss k v)) 32 0 i l ∙ ap (word_of (new_stored up w b ss k v)) e

abbrev pub Word : ℕ → Type 0
Word x = x < 2 ^ 64

module _ (w : ℕ → ℕ) (small : Small w) (b : ℕ) where
  entry_small : (ss : List ℕ) → All Word (entry_words (view w b) ss)
  unfolding view
  entry_small [] = tt
  entry_small (s ∷ ss) = (block_small w small b (2 + 2 * s), (block_small w small b (3 + 2 * s), entry_small ss))

  new_fit : (up : Bool) (ss : List ℕ) (k : ℕ) → length ss ≡ 7 → Fit (new_header up (view w b) ss k)
  new_fit true ss k n =
      fit_marked (marked_from (view w b) 0 7 ss) 6 k (omega arith) (fit_from (view w b) ss 0 7 (omega arith) (lit< tt))
  new_fit false ss k n = fit_from (view w b) ss 0 7 (omega arith) (lit< tt)

  pub new_small : (up : Bool) (ss : List ℕ) (k v : ℕ) → length ss ≡ 7 → Word k → Word v
      → All Word (new_words up (view w b) ss k v)
  unfolding view
  new_small up ss k v n a d = (
    low_small (new_header up (view w b) ss k),
    (high_small (new_header up (view w b) ss k) (new_fit up ss k n), all_join Word (replicate 12 0) rest zeros others),
  )
    where
      z : Word 0
      z = lit< tt

      zeros : All Word (replicate 12 0)
      zeros = (z, (z, (z, (z, (z, (z, (z, (z, (z, (z, (z, (z, tt))))))))))))

      chosen : (t : Bool) (x : ℕ) → Word x → Word (cond t x 0)
      chosen true x h = h
      chosen false x h = z

      rest : List ℕ
      rest = cond up k 0 ∷ cond up v 0 ∷ (entry_words (view w b) ss ++ ((view w b).next ∷ 0 ∷ []))

      others : All Word rest
      others = (
        chosen up k a,
        (
          chosen up v d,
          all_join Word (entry_words (view w b) ss) ((view w b).next ∷ 0 ∷ []) (entry_small ss)
              (block_small w small b (30 + alt_in (head_in w b)), (z, tt)),
        ),
      )
