-- Each key has one target leaf in a sound image, and is there or nowhere.
use Rattle.std.specs.Prelude.{◌≡◌, refl, Bool, true, false, List, [], ◌∷◌, ◌++◌, ◌⊎◌, ◌≢◌, ℕ, zero, suc, ◌≤◌, ◌<◌}
use Rattle.std.proofs.Common.{sym, ap, ap₂, ◌∙◌, inl, inr, arith}
use Rattle.std.proofs.Math.Decide.{ℕ_discrete, dec_le}
use Rattle.words.specs.Bools.{differ}
use Rattle.leaf.specs.Leaf.{Leaf, Taken, In, Right}
use Rattle.image.specs.Chain.{All, Starts, Has, Sound}
use Rattle.image.specs.Target.{Reaches, Target}
use Rattle.image.proofs.Same.{own}
use Rattle.image.specs.ChainLaws.{Good}
use Rattle.image.proofs.ChainLaws.{all_split, distinct_at, has_right, has_split, sound_good}
use Rattle.image.proofs.ChainSize.{Later, sound_later, chain_unique}
use Rattle.image.proofs.Stretch.{above_left}

-- ---- find looks only there

module _ (I : ℕ → Leaf) (N : ℕ) (xs : List ℕ) (b : ℕ) (ys : List ℕ) (S : Sound I N (xs ++ (b ∷ ys))) (k : ℕ)
    (t : Target I b ys k) where
  pub target_above : (j u : ℕ) → Has I xs j u → j < k
  target_above j u h =
      elim t.low [
        | inl e ↦ absurd (first xs j u h S.starts (distinct_at xs b ys S.distinct).0 e)
        | inr r ↦ omega (arith, above_left I N xs (b ∷ []) ys S r.0 r.1 (inl r.2) j u h, r.3)
      ]
    where
      first : (xs : List ℕ) (j u : ℕ) → Has I xs j u → Starts (xs ++ (b ∷ ys)) → All (λ x. x ≢ b) xs → b ≡ 0 → ⊥
      first [] j u h s a e = h
      first (x ∷ xs) j u h s a e = a.0 (s ∙ sym e)

  pub target_find : (v : ℕ) → Has I (xs ++ (b ∷ ys)) k v → In (I b) k v
  target_find v h =
      elim (has_split I k v xs (b ∷ ys) h) [
        | inl a ↦ absurd (omega (arith, target_above k v a))
        | inr a ↦ elim a [ inl i ↦ i | inr c ↦ absurd (omega (arith, t.high k v c)) ]
      ]

-- ---- there is one

-- some of the first n slots has a key that is at most k, or all their keys are above it
reaches_to_lem : (L : Leaf) (k n : ℕ) → Reaches L k ⊎ ((s : ℕ) → s < n → Taken L s → k < L.key s)
reaches_to_lem L k zero = inr (λ s h t. absurd (omega arith))
reaches_to_lem L k (suc n) = go (reaches_to_lem L k n) (L.occ n) refl (dec_le (L.key n) k)
  where
    Above : ℕ → Type 0
    Above m = (s : ℕ) → s < m → Taken L s → k < L.key s

    all : Above n → (Taken L n → k < L.key n) → Above (suc n)
    all f g s h t = elim (ℕ_discrete s n) [ yes e ↦ rw e (g (rw e at t)) | no ne ↦ f s (omega arith) t ]

    go : Reaches L k ⊎ Above n → (b : Bool) → L.occ n ≡ b → Dec (L.key n ≤ k) → Reaches L k ⊎ Above (suc n)
    go (inl r) b e d = inl r
    go (inr f) true e (yes d) = inl (L.key n, L.val n, own L n e, d)
    go (inr f) true e (no d) = inr (all f (λ t. omega arith))
    go (inr f) false e d = inr (all f (λ t. differ (sym t ∙ e)))

pub reaches : (L : Leaf) (k : ℕ) → Right L → Reaches L k ⊎ ((j u : ℕ) → In L j u → k < j)
reaches L k r =
    elim (reaches_to_lem L k L.size) [
      | inl x ↦ inl x
      | inr f ↦ inr (λ j u i. omega (arith, f i.at (r.inside i.at i.taken) i.taken, i.key_is))
    ]

-- a place in a list of blocks
pub record Place (bs : List ℕ) : Type 0 where
  pub before : List ℕ
  pub block : ℕ
  pub behind : List ℕ
  pub whole : bs ≡ before ++ (block ∷ behind)

-- the last leaf that reaches to k, if any does
last : (I : ℕ → Leaf) (N k : ℕ) (bs : List ℕ) → All (Good I N) bs
    → ((a : Place bs) × Reaches (I a.block) k × ((j u : ℕ) → Has I a.behind j u → k < j))
    ⊎ ((j u : ℕ) → Has I bs j u → k < j)
last I N k [] g = inr (λ j u h. absurd h)
last I N k (b ∷ bs) g =
    elim (last I N k bs g.1) [
      | inl r ↦ inl (
        record {
          before = b ∷ r.0.before;
          block = r.0.block;
          behind = r.0.behind;
          whole = ap (λ (l : List ℕ). b ∷ l) r.0.whole;
        },
        r.1,
        r.2,
      )
      | inr f ↦ elim (reaches (I b) k g.0.right) [
        | inl x ↦ inl (record { before = []; block = b; behind = bs; whole = refl }, x, f)
        | inr h ↦ inr (λ j u m. elim m [ inl i ↦ h j u i | inr n ↦ f j u n ])
      ]
    ]

pub target_exists : (I : ℕ → Leaf) (N : ℕ) (bs : List ℕ) → Sound I N bs → (k : ℕ)
    → (a : Place bs) × Target I a.block a.behind k
target_exists I N [] S k = absurd S.starts
target_exists I N (b ∷ bs) S k =
    elim (last I N k (b ∷ bs) (sound_good I N S)) [
      | inl r ↦ (r.0, record { low = inr r.1; high = r.2 })
      | inr f ↦ (
        record { before = []; block = b; behind = bs; whole = refl },
        record { low = inl S.starts; high = λ j u h. f j u (inr h) },
      )
    ]

-- ---- and no other: a leaf behind a target has no key that is at most k, and is not block 0

module _ (I : ℕ → Leaf) (k : ℕ) where
  behind_not : (b : ℕ) (ys : List ℕ) (c : ℕ) (zs rest : List ℕ) → rest ≡ ys ++ (c ∷ zs) → All (λ x. x ≢ 0) rest
      → Target I b rest k → Target I c zs k → ⊥
  behind_not b ys c zs rest e nz t u =
      elim u.low [
        | inl z ↦ (all_split (λ x. x ≢ 0) ys (c ∷ zs) (rw e at nz)).1.0 z
        | inr r ↦ omega (arith, t.high r.0 r.1 (rw e (has_right I r.0 r.1 ys (c ∷ zs) (inl r.2))), r.3)
      ]

  later_tail : (bs : List ℕ) → All (λ x. x ≢ 0) bs → Later bs
  later_tail [] a = tt
  later_tail (b ∷ bs) a = a.1

  same_place : (xs : List ℕ) (b : ℕ) (ys xs' : List ℕ) (b' : ℕ) (ys' : List ℕ) → xs ++ (b ∷ ys) ≡ xs' ++ (b' ∷ ys')
      → Later (xs ++ (b ∷ ys)) → Later (xs' ++ (b' ∷ ys')) → Target I b ys k → Target I b' ys' k
      → (xs ≡ xs') × (b ≡ b') × (ys ≡ ys')
  same_place [] b ys [] b' ys' e p q t u = (refl, cc, cc)
  same_place [] b ys (x ∷ xs') b' ys' e p q t u = absurd (behind_not b xs' b' ys' ys (cc) p t u)
  same_place (x ∷ xs) b ys [] b' ys' e p q t u = absurd (behind_not b' xs b ys ys' (cc) q u t)
  same_place (x ∷ xs) b ys (x' ∷ xs') b' ys' e p q t u =
      let f : xs ++ (b ∷ ys) ≡ xs' ++ (b' ∷ ys') = cc in
      let r : (xs ≡ xs') × (b ≡ b') × (ys ≡ ys') =
      same_place xs b ys xs' b' ys' f (later_tail (xs ++ (b ∷ ys)) p) (later_tail (xs' ++ (b' ∷ ys')) q) t u in
      let h : x ≡ x' = cc in
      (ap₂ (λ (y : ℕ) (l : List ℕ). y ∷ l) h r.0, r.1, r.2)

pub target_unique : (I : ℕ → Leaf) (N k : ℕ) (xs : List ℕ) (b : ℕ) (ys xs' : List ℕ) (b' : ℕ) (ys' : List ℕ)
    → Sound I N (xs ++ (b ∷ ys)) → Sound I N (xs' ++ (b' ∷ ys')) → Target I b ys k → Target I b' ys' k
    → (xs ≡ xs') × (b ≡ b') × (ys ≡ ys')
target_unique I N k xs b ys xs' b' ys' S T t u =
    same_place I k xs b ys xs' b' ys' (chain_unique I N (xs ++ (b ∷ ys)) (xs' ++ (b' ∷ ys')) S T)
    (sound_later I N (xs ++ (b ∷ ys)) S)
    (sound_later I N (xs' ++ (b' ∷ ys')) T)
    t
    u
