-- Chains in two parts, what soundness says of one leaf, and images whose chained leaves agree in all that is used.
use Rattle.std.specs.Prelude.{◌≡◌, refl, false, List, [], ◌∷◌, ◌++◌, ◌⊎◌, ◌≢◌, ℕ, zero, suc, ◌<◌, length, get_or}
use Rattle.std.proofs.Common.{sym, ◌∙◌, inl, inr, arith}
use Rattle.leaf.specs.Leaf.{Leaf, In}
use Rattle.image.specs.Map.{SameMap}
use Rattle.image.specs.Chain.{All, Links, Starts, Distinct, Has, Rising, Prints, Differ, Filled, Sound}
use Rattle.image.proofs.Same.{Same, same_sym, slots_in, slots_right, slots_filled}
use Rattle.image.specs.ChainLaws.{Good}

-- ---- lists of blocks in two parts

module _ (P : ℕ → Type 0) where
  pub all_split : (xs ys : List ℕ) → All P (xs ++ ys) → All P xs × All P ys
  all_split [] ys a = (tt, a)
  all_split (x ∷ xs) ys a = let r : All P xs × All P ys = all_split xs ys a.1 in ((a.0, r.0), r.1)

  pub all_join : (xs ys : List ℕ) → All P xs → All P ys → All P (xs ++ ys)
  all_join [] ys a b = b
  all_join (x ∷ xs) ys a b = (a.0, all_join xs ys a.1 b)

  -- of each element, by its place
  pub all_of : (xs : List ℕ) → ((i : ℕ) → i < length xs → P (get_or xs i 0)) → All P xs
  all_of [] h = tt
  all_of (x ∷ xs) h = (h 0 (omega arith), all_of xs (λ i b. h (suc i) (omega arith)))

  pub of_all : (xs : List ℕ) → All P xs → (i : ℕ) → i < length xs → P (get_or xs i 0)
  of_all [] a i b = elim b [ ]
  of_all (x ∷ xs) a zero b = a.0
  of_all (x ∷ xs) a (suc i) b = of_all xs a.1 i (omega arith)

pub all_zip : (P Q R : ℕ → Type 0) → ((b : ℕ) → P b → Q b → R b) → (bs : List ℕ) → All P bs → All Q bs → All R bs
all_zip P Q R f [] p q = tt
all_zip P Q R f (b ∷ bs) p q = (f b p.0 q.0, all_zip P Q R f bs p.1 q.1)

pub all_map : (P Q : ℕ → Type 0) → ((b : ℕ) → P b → Q b) → (bs : List ℕ) → All P bs → All Q bs
all_map P Q f bs p = all_zip P P Q (λ b h g. f b h) bs p p

-- the block at a place of a chain is nowhere else
pub distinct_at : (xs : List ℕ) (b : ℕ) (ys : List ℕ) → Distinct (xs ++ (b ∷ ys))
    → All (λ x. x ≢ b) xs × All (λ y. y ≢ b) ys
distinct_at [] b ys d = (tt, d.0)
distinct_at (x ∷ xs) b ys d =
    let r : All (λ x. x ≢ b) xs × All (λ y. y ≢ b) ys = distinct_at xs b ys d.1 in
    let a : b ≢ x = (all_split (λ c. c ≢ x) xs (b ∷ ys) d.0).1.0 in
    ((λ e. a (sym e), r.0), r.1)

module _ (I : ℕ → Leaf) where
  pub links_split : (a : ℕ) (xs ys : List ℕ) (z : ℕ) → Links I a (xs ++ ys) z
      → (m : ℕ) × Links I a xs m × Links I m ys z
  links_split a [] ys z l = (a, refl, l)
  links_split a (x ∷ xs) ys z l =
      let r : (m : ℕ) × Links I (I x).next xs m × Links I m ys z = links_split (I x).next xs ys z l.1 in
      (r.0, (l.0, r.1), r.2)

  pub links_join : (a : ℕ) (xs ys : List ℕ) (m z : ℕ) → Links I a xs m → Links I m ys z → Links I a (xs ++ ys) z
  links_join a [] ys m z l k = rw l k
  links_join a (x ∷ xs) ys m z l k = (l.0, links_join (I x).next xs ys m z l.1 k)

  module _ (k v : ℕ) where
    pub has_left : (xs ys : List ℕ) → Has I xs k v → Has I (xs ++ ys) k v
    has_left [] ys x' = elim x' [ ]
    has_left (x ∷ xs) ys (inl i) = inl i
    has_left (x ∷ xs) ys (inr h) = inr (has_left xs ys h)

    pub has_right : (xs ys : List ℕ) → Has I ys k v → Has I (xs ++ ys) k v
    has_right [] ys h = h
    has_right (x ∷ xs) ys h = inr (has_right xs ys h)

    pub has_split : (xs ys : List ℕ) → Has I (xs ++ ys) k v → Has I xs k v ⊎ Has I ys k v
    has_split [] ys h = inr h
    has_split (x ∷ xs) ys (inl i) = inl (inl i)
    has_split (x ∷ xs) ys (inr h) = elim (has_split xs ys h) [ inl a ↦ inl (inr a) | inr b ↦ inr b ]

  -- every key of xs is below every key of ys
  abbrev pub Below : List ℕ → List ℕ → Type 0
  Below xs ys = (k v j u : ℕ) → Has I xs k v → Has I ys j u → k < j

  pub rising_split : (xs ys : List ℕ) → Rising I (xs ++ ys) → Rising I xs × Rising I ys × Below xs ys
  rising_split [] ys r = (tt, r, λ k v j u h. absurd h)
  rising_split (x ∷ xs) ys r =
      let q : Rising I xs × Rising I ys × Below xs ys = rising_split xs ys r.1 in
      ((λ k v j u i h. r.0 k v j u i (has_left j u xs ys h), q.0), q.1, below q.2)
    where
      below : Below xs ys → (k v j u : ℕ) → In (I x) k v ⊎ Has I xs k v → Has I ys j u → k < j
      below q k v j u (inl i) h = r.0 k v j u i (has_right j u xs ys h)
      below q k v j u (inr g) h = q k v j u g h

  pub rising_join : (xs ys : List ℕ) → Rising I xs → Rising I ys → Below xs ys → Rising I (xs ++ ys)
  rising_join [] ys r q b = q
  rising_join (x ∷ xs) ys r q b = (
    λ k v j u i h. elim (has_split j u xs ys h) [ inl g ↦ r.0 k v j u i g | inr g ↦ b k v j u (inl i) g ],
    rising_join xs ys r.1 q (λ k v j u h. b k v j u (inr h)),
  )

-- ---- soundness by leaf

module _ (I : ℕ → Leaf) (N : ℕ) where
  goods : (bs : List ℕ) → All (λ b. (I b).lock ≡ false) bs → All (λ b. (I b).next < N) bs → All (λ b. Prints (I b)) bs
      → All (λ b. Differ (I b)) bs → All (λ b. (b ≡ 0) ⊎ Filled (I b)) bs → All (Good I N) bs
  goods [] u n p d f = tt
  goods (b ∷ bs) u n p d f = (
    record {
      unlocked = u.0;
      near = n.0;
      right = record { inside = λ s t. (p.0 s t).0; prints = λ s t. (p.0 s t).1; differ = d.0 };
      filled = f.0;
    },
    goods bs u.1 n.1 p.1 d.1 f.1,
  )

  pub sound_good : {bs : List ℕ} → Sound I N bs → All (Good I N) bs
  sound_good {bs} S = goods bs S.unlocked S.near S.prints S.differ S.filled

  pub good_sound : (bs : List ℕ) → Starts bs → Links I 0 bs 0 → All (Good I N) bs → Distinct bs → Rising I bs
      → Sound I N bs
  good_sound bs s l g d r = record {
    starts = s;
    links = l;
    unlocked = all_map (Good I N) (λ b. (I b).lock ≡ false) (λ b x. x.unlocked) bs g;
    near = all_map (Good I N) (λ b. (I b).next < N) (λ b x. x.near) bs g;
    distinct = d;
    prints = all_map (Good I N) (λ b. Prints (I b)) (λ b x s t. (x.right.inside s t, x.right.prints s t)) bs g;
    differ = all_map (Good I N) (λ b. Differ (I b)) (λ b x. x.right.differ) bs g;
    rising = r;
    filled = all_map (Good I N) (λ b. (b ≡ 0) ⊎ Filled (I b)) (λ b x. x.filled) bs g;
  }

-- ---- images whose leaves of a list of blocks agree in all that is used

abbrev pub Agree : List ℕ → (ℕ → Leaf) → (ℕ → Leaf) → Type 0
Agree bs I J = All (λ b. Same (I b) (J b)) bs

pub agree_sym : (I J : ℕ → Leaf) (bs : List ℕ) → Agree bs I J → Agree bs J I
agree_sym I J bs s = all_map (λ b. Same (I b) (J b)) (λ b. Same (J b) (I b)) (λ b. same_sym) bs s

module _ (I J : ℕ → Leaf) where
  pub agree_links : (a : ℕ) (bs : List ℕ) (z : ℕ) → Agree bs I J → Links I a bs z → Links J a bs z
  agree_links a [] z s l = l
  agree_links a (b ∷ bs) z s l = (l.0, rw s.0.next (agree_links (I b).next bs z s.1 l.1))

  pub agree_has : (k v : ℕ) (bs : List ℕ) → Agree bs I J → Has I bs k v → Has J bs k v
  agree_has k v [] s x'' = elim x'' [ ]
  agree_has k v (b ∷ bs) s (inl i) = inl (slots_in s.0.slots k v i)
  agree_has k v (b ∷ bs) s (inr h) = inr (agree_has k v bs s.1 h)

  agree_good : (N b : ℕ) → Same (I b) (J b) → Good I N b → Good J N b
  agree_good N b s g = record {
    unlocked = s.lock ∙ g.unlocked;
    near = rw s.next g.near;
    right = slots_right s.slots g.right;
    filled = elim g.filled [ inl e ↦ inl e | inr f ↦ inr (slots_filled s.slots f) ];
  }

  pub agree_goods : (N : ℕ) (bs : List ℕ) → Agree bs I J → All (Good I N) bs → All (Good J N) bs
  agree_goods N bs s g = all_zip (λ b. Same (I b) (J b)) (Good I N) (Good J N) (agree_good N) bs s g

pub agree_map : (I J : ℕ → Leaf) (bs : List ℕ) → Agree bs I J → SameMap (Has J bs) (Has I bs)
agree_map I J bs s = record {
  to = λ k v h. agree_has J I k v bs (agree_sym I J bs s) h;
  back = λ k v h. agree_has I J k v bs s h;
}

module _ (I J : ℕ → Leaf) where
  pub agree_rising : (bs : List ℕ) → Agree bs I J → Rising I bs → Rising J bs
  agree_rising [] s r = tt
  agree_rising (b ∷ bs) s r = (
    λ k v j u i h.
        r.0 k v j u (slots_in (same_sym s.0).slots k v i) ((agree_map I J bs s.1).to j u h),
    agree_rising bs s.1 r.1,
  )

  pub agree_sound : (N : ℕ) (bs : List ℕ) → Agree bs I J → Sound I N bs → Sound J N bs
  agree_sound N bs s S =
      good_sound J N bs S.starts (agree_links I J 0 bs 0 s S.links)
      (agree_goods I J N bs s (sound_good I N S))
      S.distinct
      (agree_rising bs s S.rising)
