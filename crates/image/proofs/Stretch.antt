-- The chain theorem: one stretch of the chain replaced by another, whose map is that of the first but at one key. It
-- serves every change that a call makes.
use Rattle.std.specs.Prelude.{List, ◌++◌, ◌⊎◌, ℕ, ◌<◌}
use Rattle.std.proofs.Common.{inl, inr, arith}
use Rattle.leaf.specs.Leaf.{Leaf}
use Rattle.image.specs.Map.{SameMap, Altered}
use Rattle.image.specs.Chain.{All, Links, Starts, Distinct, Has, Rising, Sound}
use Rattle.image.proofs.ChainLaws.{all_split, all_join, links_split, links_join, has_left, has_right, has_split}
use Rattle.image.specs.ChainLaws.{Good}
use Rattle.image.proofs.ChainLaws.{Below, rising_split, rising_join, sound_good, good_sound}
use Rattle.image.proofs.ChainLaws.{Agree, agree_links, agree_has, agree_map, agree_goods, agree_rising}

-- ---- around a stretch M of a sound chain

module _ (I : ℕ → Leaf) (N : ℕ) (xs M ys : List ℕ) (S : Sound I N (xs ++ (M ++ ys))) where
  around : Rising I M × Below I xs (M ++ ys) × Below I M ys
  around =
      let a : Rising I xs × Rising I (M ++ ys) × Below I xs (M ++ ys) = rising_split I xs (M ++ ys) S.rising in
      let b : Rising I M × Rising I ys × Below I M ys = rising_split I M ys a.1 in
      (b.0, a.2, b.2)

  pub part_rising : Rising I M
  part_rising = around.0

  pub above_left : (k v : ℕ) → Has I M k v → (j u : ℕ) → Has I xs j u → j < k
  above_left k v m j u h = around.1 j u k v h (has_left I k v M ys m)

  pub below_right : (k v : ℕ) → Has I M k v → (j u : ℕ) → Has I ys j u → k < j
  below_right k v m j u h = around.2 k v j u m h

  pub part_good : All (Good I N) M
  part_good = (all_split (Good I N) M ys (all_split (Good I N) xs (M ++ ys) (sound_good I N S)).1).0

-- ---- the stretch M of the image I replaced by the stretch W of the image J

-- the image J is sound, with the chain cs, and has the map of I but at k
pub record Changed (I J : ℕ → Leaf) (N : ℕ) (bs cs : List ℕ) (k : ℕ) (P : ℕ → Type 0) : Type 0 where
  pub sound : Sound J N cs
  pub map : SameMap (Has J cs) (Altered (Has I bs) k P)

module _ (I J : ℕ → Leaf) (N : ℕ) (xs M W ys : List ℕ) (k : ℕ) (P : ℕ → Type 0) where
  pub record Replaced : Type 0 where
    pub left : Agree xs I J
    pub right : Agree ys I J
    pub starts : Starts (xs ++ (W ++ ys))
    pub ends : (a z : ℕ) → Links I a M z → Links J a W z
    pub leaves : All (Good J N) W
    pub distinct : Distinct (xs ++ (W ++ ys))
    pub rising : Rising J W
    pub map : SameMap (Has J W) (Altered (Has I M) k P)
    pub above : (j u : ℕ) → Has I xs j u → j < k
    pub below : (j u : ℕ) → Has I ys j u → k < j

  module _ (R : Replaced) where
    back_left : (j u : ℕ) → Has J xs j u → Has I xs j u
    back_left = (agree_map I J xs R.left).to

    back_right : (j u : ℕ) → Has J ys j u → Has I ys j u
    back_right = (agree_map I J ys R.right).to

    replaced_sound : Sound I N (xs ++ (M ++ ys)) → Sound J N (xs ++ (W ++ ys))
    replaced_sound S =
        let la : (m : ℕ) × Links I 0 xs m × Links I m (M ++ ys) 0 = links_split I 0 xs (M ++ ys) 0 S.links in
        let lb : (m : ℕ) × Links I la.0 M m × Links I m ys 0 = links_split I la.0 M ys 0 la.2 in
        let ga : All (Good I N) xs × All (Good I N) (M ++ ys) = all_split (Good I N) xs (M ++ ys) (sound_good I N S) in
        let gb : All (Good I N) M × All (Good I N) ys = all_split (Good I N) M ys ga.1 in
        let ra : Rising I xs × Rising I (M ++ ys) × Below I xs (M ++ ys) = rising_split I xs (M ++ ys) S.rising in
        let rb : Rising I M × Rising I ys × Below I M ys = rising_split I M ys ra.1 in
        good_sound J N (xs ++ (W ++ ys)) R.starts
        (links_join J 0 xs (W ++ ys) la.0 0 (agree_links I J 0 xs la.0 R.left la.1)
        (links_join J la.0 W ys lb.0 0 (R.ends la.0 lb.0 lb.1)
        (agree_links I J lb.0 ys 0 R.right lb.2)))
        (all_join (Good J N) xs (W ++ ys) (agree_goods I J N xs R.left ga.0)
        (all_join (Good J N) W ys R.leaves (agree_goods I J N ys R.right gb.1)))
        R.distinct
        (rising_join J xs (W ++ ys) (agree_rising I J xs R.left ra.0)
        (rising_join J W ys R.rising (agree_rising I J ys R.right rb.1)
        (λ i v j u h g. lower rb.2 i v j u (R.map.to i v h) (back_right j u g)))
        (λ i v j u h g. upper ra.2 i v j u (back_left i v h) (has_split J j u W ys g)))
      where
        lower : Below I M ys → (i v j u : ℕ) → Altered (Has I M) k P i v → Has I ys j u → i < j
        lower b i v j u (inl h) g = b i v j u h.0 g
        lower b i v j u (inr h) g = rw h.0 (R.below j u g)

        upper : Below I xs (M ++ ys) → (i v j u : ℕ) → Has I xs i v → Has J W j u ⊎ Has J ys j u → i < j
        upper b i v j u h (inl g) =
            elim (R.map.to j u g) [
              | inl m ↦ b i v j u h (has_left I j u M ys m.0)
              | inr n ↦ rw n.0 (R.above i v h)
            ]
        upper b i v j u h (inr g) = b i v j u h (has_right I j u M ys (back_right j u g))

    replaced_map : SameMap (Has J (xs ++ (W ++ ys))) (Altered (Has I (xs ++ (M ++ ys))) k P)
    replaced_map = record {
      to = λ j u h. elim (has_split J j u xs (W ++ ys) h) [
        | inl a ↦ let b : Has I xs j u = back_left j u a in
            inl (has_left I j u xs (M ++ ys) b, λ e. omega (arith, R.above j u b))
        | inr b ↦ elim (has_split J j u W ys b) [
          | inl m ↦ elim (R.map.to j u m) [
            | inl o ↦ inl (has_right I j u xs (M ++ ys) (has_left I j u M ys o.0), o.1)
            | inr n ↦ inr n
          ]
          | inr c ↦ let d : Has I ys j u = back_right j u c in
              inl (has_right I j u xs (M ++ ys) (has_right I j u M ys d), λ e. omega (arith, R.below j u d))
        ]
      ];
      back = λ j u h. elim h [
        | inl o ↦ elim (has_split I j u xs (M ++ ys) o.0) [
          | inl a ↦ has_left J j u xs (W ++ ys) (agree_has I J j u xs R.left a)
          | inr b ↦ has_right J j u xs (W ++ ys) (elim (has_split I j u M ys b) [
            | inl m ↦ has_left J j u W ys (R.map.back j u (inl (m, o.1)))
            | inr c ↦ has_right J j u W ys (agree_has I J j u ys R.right c)
          ])
        ]
        | inr n ↦ has_right J j u xs (W ++ ys) (has_left J j u W ys (R.map.back j u (inr n)))
      ];
    }

    pub replaced : Sound I N (xs ++ (M ++ ys)) → Changed I J N (xs ++ (M ++ ys)) (xs ++ (W ++ ys)) k P
    replaced S = record { sound = replaced_sound S; map = replaced_map }
