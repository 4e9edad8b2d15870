-- A walk along the siblings from block 0: what has been met is the chain so far of every chain that makes the image
-- sound, and a leaf that stands there as soundness asks is one more of it. So a walk that finds a fault says that no
-- chain does, and one that ends says that what it met is the chain.
use Rattle.std.specs.Prelude.{◌≡◌, refl, List, [], ◌∷◌, ◌++◌, ◌≢◌, ℕ, ◌<◌}
use Rattle.std.proofs.Common.{sym, ap, ap₂, ◌∙◌, subst, inl, inr}
use Rattle.leaf.specs.Leaf.{Leaf, In}
use Rattle.image.specs.Chain.{All, Links, Distinct, Has, Sound}
use Rattle.image.proofs.ChainLaws.{all_split, all_join, all_map, links_join, distinct_at, rising_split, rising_join}
use Rattle.image.specs.ChainLaws.{Good}
use Rattle.image.proofs.ChainLaws.{sound_good, good_sound}
use Rattle.image.specs.Walk.{Walked}

-- the list bs has xs and then m at its start
pub record Begins (bs xs : List ℕ) (m : ℕ) : Type 0 where
  pub rest : List ℕ
  pub whole : bs ≡ xs ++ (m ∷ rest)

-- the leaf m, behind the leaves xs, is as soundness asks
pub record Stands (I : ℕ → Leaf) (N : ℕ) (xs : List ℕ) (m : ℕ) : Type 0 where
  pub fresh : All (λ x. x ≢ m) xs
  pub good : Good I N m
  pub above : (j u k v : ℕ) → Has I xs j u → In (I m) k v → j < k

-- there is a leaf m: 0 ends the chain, but at its start
abbrev pub Onward : List ℕ → ℕ → Type 0
Onward [] m = m ≡ 0
Onward (x ∷ xs) m = m ≢ 0

-- ---- what has been met is the chain so far

follows : (I : ℕ → Leaf) (a : ℕ) (xs : List ℕ) (m : ℕ) (bs : List ℕ) → All (λ x. x ≢ 0) xs → m ≢ 0 → Links I a xs m
    → Links I a bs 0 → Begins bs xs m
follows I a [] m [] p n l k = absurd (n (sym l ∙ k))
follows I a [] m (b ∷ bs) p n l k = record { rest = bs; whole = ap (λ (x : ℕ). x ∷ bs) (sym k.0 ∙ l) }
follows I a (x ∷ xs) m [] p n l k = absurd (p.0 (sym l.0 ∙ k))
follows I a (x ∷ xs) m (b ∷ bs) p n l k =
    let e : b ≡ x = sym k.0 ∙ l.0 in
    let on : Links I (I x).next bs 0 = subst (λ (y : ℕ). Links I (I y).next bs 0) e k.1 in
    let r : Begins bs xs m = follows I (I x).next xs m bs p.1 n l.1 on in
    record { rest = r.rest; whole = ap₂ (λ (y : ℕ) (ys : List ℕ). y ∷ ys) e r.whole }

module _ (I : ℕ → Leaf) (N : ℕ) where
  pub walk_begins : (xs : List ℕ) (m : ℕ) → Links I 0 xs m → Distinct xs → Onward xs m → (bs : List ℕ) → Sound I N bs
      → Begins bs xs m
  walk_begins xs m l d n [] S = absurd S.starts
  walk_begins [] m l d n (b ∷ bs) S = record { rest = bs; whole = ap (λ (x : ℕ). x ∷ bs) (S.starts ∙ sym n) }
  walk_begins (x ∷ xs) m l d n (b ∷ bs) S =
      let e : b ≡ x = S.starts ∙ l.0 in
      let later : All (λ y. y ≢ 0) xs = all_map (λ y. y ≢ x) (λ y. y ≢ 0) (λ y h q. h (q ∙ l.0)) xs d.0 in
      let on : Links I (I x).next bs 0 = subst (λ (y : ℕ). Links I (I y).next bs 0) e S.links.1 in
      let r : Begins bs xs m = follows I (I x).next xs m bs later n l.1 on in
      record { rest = r.rest; whole = ap₂ (λ (y : ℕ) (ys : List ℕ). y ∷ ys) e r.whole }

  -- of a sound image the leaf that comes stands: where it does not, no chain makes the image sound
  pub walk_stands : (xs : List ℕ) (m : ℕ) → Links I 0 xs m → Distinct xs → Onward xs m → (bs : List ℕ) → Sound I N bs
      → Stands I N xs m
  walk_stands xs m l d n bs S =
      let r : Begins bs xs m = walk_begins xs m l d n bs S in
      let T : Sound I N (xs ++ (m ∷ r.rest)) = rw r.whole at S in
      record {
        fresh = (distinct_at xs m r.rest T.distinct).0;
        good = (all_split (Good I N) xs (m ∷ r.rest) (sound_good I N T)).1.0;
        above = λ j u k v h i. (rising_split I xs (m ∷ r.rest) T.rising).2 j u k v h (inl i);
      }

  -- ---- the walk

  pub walk_start : Walked I N [] 0
  walk_start = record { links = refl; distinct = tt; leaves = tt; rising = tt }

  distinct_last : (xs : List ℕ) (m : ℕ) → Distinct xs → All (λ x. x ≢ m) xs → Distinct (xs ++ (m ∷ []))
  distinct_last [] m d a = (tt, tt)
  distinct_last (x ∷ xs) m d a = (
    all_join (λ y. y ≢ x) xs (m ∷ []) d.0 (λ e. a.0 (sym e), tt),
    distinct_last xs m d.1 a.1,
  )

  pub walk_on : (xs : List ℕ) (m : ℕ) → Walked I N xs m → Stands I N xs m → Walked I N (xs ++ (m ∷ [])) (I m).next
  walk_on xs m w s = record {
    links = links_join I 0 xs (m ∷ []) m (I m).next w.links (refl, refl);
    distinct = distinct_last xs m w.distinct s.fresh;
    leaves = all_join (Good I N) xs (m ∷ []) w.leaves (s.good, tt);
    rising = rising_join I xs (m ∷ []) w.rising (λ k v j u i h. absurd h, tt)
        (λ k v j u h g. elim g [ inl i ↦ s.above k v j u h i | inr n ↦ absurd n ]);
  }

  pub walk_ends : (b : ℕ) (xs : List ℕ) → Walked I N (b ∷ xs) 0 → Sound I N (b ∷ xs)
  walk_ends b xs w = good_sound I N (b ∷ xs) (sym w.links.0) w.links w.leaves w.distinct w.rising
