-- The entries of a leaf and of a chain as rising lists, by taking the least key from one on over and over.
use Rattle.std.specs.Prelude.{◌≡◌, ◌⊎◌, ◌≢◌, length}
use Rattle.std.proofs.Math.Path.{refl, sym, ap}
use Rattle.std.proofs.Common.{◌∙◌}
use mathlib.Core.List.{List, [], ◌∷◌, ◌++◌}
use Rattle.std.proofs.Math.Logic.{inl, inr}
use Prim.Native.Nat.{ℕ, suc, ◌≤◌, ◌<◌}
use Rattle.std.proofs.Math.Decide.{ℕ_discrete}
use native.Mathlib.Omega.{arith}
use Rattle.std.proofs.Math.ListN.{length-append}
use Rattle.leaf.specs.Leaf.{Leaf, Taken, In, Right}
use Rattle.leaf.specs.Search.{count}
use Rattle.image.specs.Map.{Map, SameMap, Entry, Member, Sorted, Lists, starting_at}
use Rattle.image.proofs.ListLaws.{lists_unique, sorted_function, member_left, member_right, member_split}
use Rattle.image.proofs.ListLaws.{sorted_join, starting_lists}
use Rattle.image.specs.Chain.{All, Has, Rising, Sound}
use Rattle.image.specs.Target.{Target}
use Rattle.image.proofs.Same.{own}
use Rattle.image.specs.ChainLaws.{Good}
use Rattle.image.proofs.ChainLaws.{sound_good, has_right, has_split, Agree, agree_map, agree_sound}
use Rattle.image.proofs.ChainLaws.{rising_split, Below, all_split}
use Rattle.image.proofs.TargetLaws.{target_above}
use Rattle.image.specs.Potential.{sum_of, entries}
use Rattle.image.specs.Order.{slots_from, slots_of}
use Rattle.image.proofs.Order.{KeysRise, Upper, slots_from_lem, slots_upper, slots_count}
use Rattle.image.specs.Entries.{entries_at, entries_of, list_of}

-- ---- of a leaf

module _ (L : Leaf) where
  entries_sorted : (lo : ℕ) (ss : List ℕ) → KeysRise L lo ss → Sorted lo (entries_at L ss)
  unfolding entries_at
  entries_sorted lo [] r = tt
  entries_sorted lo (s ∷ ss) r = (r.0, entries_sorted (suc (L.key s)) ss r.1)

  keys_lower : (lo : ℕ) (ss : List ℕ) → KeysRise L lo ss → KeysRise L 0 ss
  keys_lower lo [] r = tt
  keys_lower lo (s ∷ ss) r = (omega arith, r.1)

  entries_in_lem : (ss : List ℕ) → All (λ s. Taken L s) ss → (k v : ℕ) → Member (entries_at L ss) k v → In L k v
  unfolding entries_at
  entries_in_lem [] a k v x'' = elim x'' [ ]
  entries_in_lem (s ∷ ss) a k v (inl e) = rw (e.0, e.1) (own L s a.0)
  entries_in_lem (s ∷ ss) a k v (inr m) = entries_in_lem ss a.1 k v m

  in_entries : (ss : List ℕ) (k v : ℕ) (i : In L k v) → (All (λ s. s ≢ i.at) ss → ⊥) → Member (entries_at L ss) k v
  unfolding entries_at
  in_entries [] k v i f = absurd (f tt)
  in_entries (s ∷ ss) k v i f =
      elim (ℕ_discrete s i.at) [
        | yes e ↦ inl (sym i.key_is ∙ ap L.key (sym e), sym i.val_is ∙ ap L.val (sym e))
        | no ne ↦ inr (in_entries ss k v i (λ g. f (ne, g)))
      ]

  keys_above : (lo : ℕ) (ss : List ℕ) → KeysRise L lo ss → (k v : ℕ) → Member (entries_at L ss) k v → lo ≤ k
  unfolding entries_at
  keys_above lo [] r k v x'' = elim x'' [ ]
  keys_above lo (s ∷ ss) r k v (inl e) = omega (arith, r.0, e.0)
  keys_above lo (s ∷ ss) r k v (inr m) = omega (arith, r.0, keys_above (suc (L.key s)) ss r.1 k v m)

  -- the slots with keys from lo on give the entries with keys from lo on
  upper_map : (lo : ℕ) (ss : List ℕ) → Upper L lo ss → SameMap (Member (entries_at L ss)) (λ k v. In L k v × (lo ≤ k))
  upper_map lo ss u = record {
    to = λ k v m. (entries_in_lem ss u.taken k v m, keys_above lo ss u.rising k v m);
    back = λ k v h.
        let i : In L k v = h.0 in
        in_entries ss k v i (u.all i.at i.taken (omega (arith, h.1, i.key_is)));
  }

  pub entries_length : (ss : List ℕ) → length (entries_at L ss) ≡ length ss
  unfolding entries_at
  entries_length [] = refl
  entries_length (s ∷ ss) = ap suc (entries_length ss)

module _ (L : Leaf) (r : Right L) where
  pub leaf_lists : Lists (In L) (entries_of L)
  unfolding entries_of
  leaf_lists =
      let u : Upper L 0 (slots_of L) = slots_upper L r in
      let m : SameMap (Member (entries_at L (slots_of L))) (λ k v. In L k v × (0 ≤ k)) = upper_map L 0 (slots_of L) u in
      record {
        sorted = entries_sorted L 0 (slots_of L) u.rising;
        members = record { to = λ k v h. (m.to k v h).0; back = λ k v i. m.back k v (i, omega arith) };
      }

  pub leaf_length : length (entries_of L) ≡ count L
  unfolding entries_of
  leaf_length = entries_length L (slots_of L) ∙ slots_count L r

-- ---- of a chain

-- the lists of two maps, one below the other, are the list of both
lists_join : (G H : Map) (l m : List Entry) → Lists G l → Lists H m → ((k v j u : ℕ) → G k v → H j u → k < j)
    → Lists (λ k v. G k v ⊎ H k v) (l ++ m)
lists_join G H l m a b below = record {
  sorted = sorted_join 0 l m a.sorted b.sorted (λ k v h. omega arith)
      (λ k v j u h g. below k v j u (a.members.to k v h) (b.members.to j u g));
  members = record {
    to = λ k v h. elim (member_split k v l m h) [ inl x ↦ inl (a.members.to k v x) | inr y ↦ inr (b.members.to k v y) ];
    back = λ k v h. elim h [
      | inl x ↦ member_left k v l m (a.members.back k v x)
      | inr y ↦ member_right k v l m (b.members.back k v y)
    ];
  };
}

module _ (I : ℕ → Leaf) (N : ℕ) where
  goods_list : (bs : List ℕ) → All (Good I N) bs → Rising I bs → Lists (Has I bs) (list_of I bs)
  unfolding list_of
  goods_list [] g r = record { sorted = tt; members = record { to = λ k v h. h; back = λ k v h. h } }
  goods_list (b ∷ bs) g r =
      lists_join (In (I b)) (Has I bs) (entries_of (I b)) (list_of I bs) (leaf_lists (I b) g.0.right)
      (goods_list bs g.1 r.1)
      r.0

  -- "The map of a sound image is its occupied entries": as a rising list
  pub chain_lists : (bs : List ℕ) → Sound I N bs → Lists (Has I bs) (list_of I bs)
  chain_lists bs S = goods_list bs (sound_good I N S) S.rising

  -- one key has one value
  pub map_function : (bs : List ℕ) → Sound I N bs → (k u v : ℕ) → Has I bs k u → Has I bs k v → u ≡ v
  map_function bs S k u v h g =
      let L : Lists (Has I bs) (list_of I bs) = chain_lists bs S in
      sorted_function 0 (list_of I bs) L.sorted k u v (L.members.back k u h) (L.members.back k v g)

  goods_length : (bs : List ℕ) → All (Good I N) bs → length (list_of I bs) ≡ entries I bs
  unfolding list_of sum_of
  goods_length [] g = refl
  goods_length (b ∷ bs) g =
      omega (
        arith,
        length-append (entries_of (I b)) (list_of I bs),
        leaf_length (I b) g.0.right,
        goods_length bs g.1,
      )

  pub chain_length : (bs : List ℕ) → Sound I N bs → length (list_of I bs) ≡ entries I bs
  chain_length bs S = goods_length bs (sound_good I N S)

  -- "entries with that key or above": those of the target leaf, and all of the leaves behind it
  pub list_from_lem : (xs : List ℕ) (b : ℕ) (ys : List ℕ) → Sound I N (xs ++ (b ∷ ys)) → (k : ℕ) → Target I b ys k
      → starting_at k (list_of I (xs ++ (b ∷ ys))) ≡ entries_at (I b) (slots_from (I b) (I b).size k) ++ list_of I ys
  list_from_lem xs b ys S k t =
      lists_unique (λ j u. Has I bs j u × (k ≤ j)) (λ j u. (In (I b) j u × (k ≤ j)) ⊎ Has I ys j u) (starting_at k (list_of I bs))
      (entries_at (I b) ss ++ list_of I ys)
      same
      (starting_lists (chain_lists bs S) k)
      (lists_join (λ j u. In (I b) j u × (k ≤ j)) (Has I ys) (entries_at (I b) ss) (list_of I ys) here
      (goods_list ys parts.1.1 rise.1.1)
      (λ i v j u h g. rise.1.0 i v j u h.0 g))
    where
      bs : List ℕ
      bs = xs ++ (b ∷ ys)

      parts : All (Good I N) xs × All (Good I N) (b ∷ ys)
      parts = all_split (Good I N) xs (b ∷ ys) (sound_good I N S)

      rise : Rising I xs × Rising I (b ∷ ys) × Below I xs (b ∷ ys)
      rise = rising_split I xs (b ∷ ys) S.rising

      ss : List ℕ
      ss = slots_from (I b) (I b).size k

      here : Lists (λ j u. In (I b) j u × (k ≤ j)) (entries_at (I b) (slots_from (I b) (I b).size k))
      here =
          let u : Upper (I b) k ss = slots_from_lem (I b) parts.1.0.right k in
          record { sorted = entries_sorted (I b) 0 ss (keys_lower (I b) k ss u.rising); members = upper_map (I b) k ss u }

      same : SameMap (λ j u. Has I bs j u × (k ≤ j)) (λ j u. (In (I b) j u × (k ≤ j)) ⊎ Has I ys j u)
      same = record {
        to = λ j u h. elim (has_split I j u xs (b ∷ ys) h.0) [
          | inl a ↦ absurd (omega (arith, target_above I N xs b ys S k t j u a, h.1))
          | inr c ↦ elim c [ inl i ↦ inl (i, h.1) | inr d ↦ inr d ]
        ];
        back = λ j u h. elim h [
          | inl i ↦ (has_right I j u xs (b ∷ ys) (inl i.0), i.1)
          | inr d ↦ (has_right I j u xs (b ∷ ys) (inr d), let l : k < j = t.high j u d in omega arith)
        ];
      }

-- images that agree have one list
pub agree_list : (I J : ℕ → Leaf) (N : ℕ) (bs : List ℕ) → Sound I N bs → Agree bs I J → list_of J bs ≡ list_of I bs
agree_list I J N bs S s =
    lists_unique (Has J bs) (Has I bs) (list_of J bs) (list_of I bs) (agree_map I J bs s)
    (chain_lists J N bs (agree_sound I J N bs s S))
    (chain_lists I N bs S)
