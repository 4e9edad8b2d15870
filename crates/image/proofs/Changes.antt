-- The changes of a chain: one leaf changed, a leaf taken out, a leaf split in two, two leaves joined.
use Rattle.std.specs.Prelude.{◌≡◌, false, List, [], ◌∷◌, ◌++◌, ◌⊎◌, ◌≢◌, ℕ, ◌<◌}
use Rattle.std.proofs.Common.{sym, ◌∙◌, inl, inr, arith}
use Rattle.std.proofs.Math.Decide.{ℕ_discrete}
use Rattle.leaf.specs.Leaf.{Leaf, In}
use Rattle.image.specs.Map.{SameMap}
use Rattle.image.specs.Chain.{All, Starts, Distinct, Has, Filled, Sound}
use Rattle.image.specs.Target.{Target}
use Rattle.image.specs.ChainLaws.{Good}
use Rattle.image.proofs.ChainLaws.{all_split, all_zip, all_map, distinct_at, has_right, Agree}
use Rattle.image.proofs.ChainLaws.{agree_sound, agree_map}
use Rattle.image.proofs.Stretch.{Changed, Replaced, replaced, part_rising, above_left, below_right, part_good}
use Rattle.image.proofs.TargetLaws.{target_find}
use Rattle.image.proofs.Same.{Slots, Same, slots_in, slots_sym, slots_right, slots_filled}
use Rattle.image.proofs.EditMaps.{Gives}
use Rattle.image.proofs.Parting.{Halves}

-- the image J is sound, with the chain cs, and has the map of I
pub record Stays (I J : ℕ → Leaf) (N : ℕ) (bs cs : List ℕ) : Type 0 where
  pub sound : Sound J N cs
  pub map : SameMap (Has J cs) (Has I bs)

pub agree_stays : (I J : ℕ → Leaf) (N : ℕ) (bs : List ℕ) → Sound I N bs → Agree bs I J → Stays I J N bs bs
agree_stays I J N bs S s = record { sound = agree_sound I J N bs s S; map = agree_map I J bs s }

-- ---- lists of blocks with one more or one less

module _ (P : ℕ → Type 0) (b c : ℕ) (ys : List ℕ) where
  all_after : (xs : List ℕ) → P c → All P (xs ++ (b ∷ ys)) → All P (xs ++ (b ∷ c ∷ ys))
  all_after [] h a = (a.0, (h, a.1))
  all_after (x ∷ xs) h a = (a.0, all_after xs h a.1)

  all_without : (xs : List ℕ) → All P (xs ++ (b ∷ c ∷ ys)) → All P (xs ++ (b ∷ ys))
  all_without [] a = (a.0, a.1.1)
  all_without (x ∷ xs) a = (a.0, all_without xs a.1)

distinct_after : (xs : List ℕ) (b c : ℕ) (ys : List ℕ) → All (λ x. x ≢ c) (xs ++ (b ∷ ys)) → Distinct (xs ++ (b ∷ ys))
    → Distinct (xs ++ (b ∷ c ∷ ys))
distinct_after [] b c ys a d = ((λ e. a.0 (sym e), d.0), (a.1, d.1))
distinct_after (x ∷ xs) b c ys a d =
    (all_after (λ z. z ≢ x) b c ys xs (λ e. a.0 (sym e)) d.0, distinct_after xs b c ys a.1 d.1)

distinct_without : (xs : List ℕ) (b c : ℕ) (ys : List ℕ) → Distinct (xs ++ (b ∷ c ∷ ys)) → Distinct (xs ++ (b ∷ ys))
distinct_without [] b c ys d = (d.0.1, d.1.1)
distinct_without (x ∷ xs) b c ys d = (all_without (λ z. z ≢ x) b c ys xs d.0, distinct_without xs b c ys d.1)

starts_as : (xs : List ℕ) (b : ℕ) (ys zs : List ℕ) → Starts (xs ++ (b ∷ ys)) → Starts (xs ++ (b ∷ zs))
starts_as [] b ys zs s = s
starts_as (x ∷ xs) b ys zs s = s

-- the leaves outside of the blocks that change
pub agree_but : (I J : ℕ → Leaf) (b : ℕ) → ((x : ℕ) → x ≢ b → Same (I x) (J x)) → (bs : List ℕ) → All (λ x. x ≢ b) bs
    → Agree bs I J
agree_but I J b others bs a = all_map (λ x. x ≢ b) (λ x. Same (I x) (J x)) others bs a

-- ---- one leaf changed

module _ (I J : ℕ → Leaf) (N : ℕ) (xs : List ℕ) (b : ℕ) (ys : List ℕ) (k : ℕ) (P : ℕ → Type 0)
    (S : Sound I N (xs ++ (b ∷ ys))) (others : (x : ℕ) → x ≢ b → Same (I x) (J x)) where
  pub one_leaf : Gives (I b) (J b) k P → (J b).lock ≡ (I b).lock → (J b).next ≡ (I b).next → (b ≡ 0) ⊎ Filled (J b)
      → ((j u : ℕ) → Has I xs j u → j < k) → ((j u : ℕ) → Has I ys j u → k < j)
      → Changed I J N (xs ++ (b ∷ ys)) (xs ++ (b ∷ ys)) k P
  one_leaf g lock next filled above below = replaced I J N xs (b ∷ []) (b ∷ []) ys k P R S
    where
      out : All (λ x. x ≢ b) xs × All (λ y. y ≢ b) ys
      out = distinct_at xs b ys S.distinct

      good : Good I N b
      good = (part_good I N xs (b ∷ []) ys S).0

      R : Replaced I J N xs (b ∷ []) (b ∷ []) ys k P
      R = record {
        left = agree_but I J b others xs out.0;
        right = agree_but I J b others ys out.1;
        starts = S.starts;
        ends = λ a z l. (l.0, next ∙ l.1);
        leaves = (
          record { unlocked = lock ∙ good.unlocked; near = rw next good.near; right = g.right; filled = filled },
          tt,
        );
        distinct = S.distinct;
        rising = (λ k v j u i h. absurd h, tt);
        map = record {
          to = λ j u h. elim h [
            | inl i ↦ (elim (g.map.to j u i) [ inl o ↦ inl (inl o.0, o.1) | inr n ↦ inr n ])
            | inr n ↦ absurd n
          ];
          back = λ j u h. inl (g.map.back j u (elim h [
            | inl o ↦ (elim o.0 [ inl i ↦ inl (i, o.1) | inr n ↦ absurd n ])
            | inr n ↦ inr n
          ]));
        };
        above = above;
        below = below;
      }

-- ---- the leaf b behind p taken out: its only entry is of the key k

module _ (I J : ℕ → Leaf) (N : ℕ) (xs : List ℕ) (p b : ℕ) (ys : List ℕ) (S : Sound I N (xs ++ (p ∷ b ∷ ys)))
    (others : (x : ℕ) → x ≢ p → Same (I x) (J x)) where
  pub unlink : (k v : ℕ) → In (I b) k v → ((j u : ℕ) → In (I b) j u → j ≡ k) → Slots (I p) (J p)
      → (J p).lock ≡ (I p).lock → (J p).next ≡ (I b).next
      → Changed I J N (xs ++ (p ∷ b ∷ ys)) (xs ++ (p ∷ ys)) k (λ u. ⊥)
  unlink k v i only slots lock next = replaced I J N xs (p ∷ b ∷ []) (p ∷ []) ys k (λ u. ⊥) R S
    where
      good : All (Good I N) (p ∷ b ∷ [])
      good = part_good I N xs (p ∷ b ∷ []) ys S

      out : All (λ x. x ≢ p) xs × All (λ y. y ≢ p) (b ∷ ys)
      out = distinct_at xs p (b ∷ ys) S.distinct

      lower : (j u : ℕ) → In (I p) j u → j < k
      lower j u c = (part_rising I N xs (p ∷ b ∷ []) ys S).0 j u k v c (inl i)

      R : Replaced I J N xs (p ∷ b ∷ []) (p ∷ []) ys k (λ u. ⊥)
      R = record {
        left = agree_but I J p others xs out.0;
        right = agree_but I J p others ys out.1.1;
        starts = starts_as xs p (b ∷ ys) ys S.starts;
        ends = λ a z l. (l.0, next ∙ l.1.1);
        leaves = (
          record {
            unlocked = lock ∙ good.0.unlocked;
            near = rw next good.1.0.near;
            right = slots_right slots good.0.right;
            filled = elim good.0.filled [ inl e ↦ inl e | inr f ↦ inr (slots_filled slots f) ];
          },
          tt,
        );
        distinct = distinct_without xs p b ys S.distinct;
        rising = (λ k v j u i h. absurd h, tt);
        map = record {
          to = λ j u h. elim h [
            | inl a ↦ (let c : In (I p) j u = slots_in (slots_sym slots) j u a in inl (inl c, λ e. omega (arith, lower j u c)))
            | inr n ↦ absurd n
          ];
          back = λ j u h. elim h [
            | inl o ↦ (elim o.0 [
              | inl a ↦ inl (slots_in slots j u a)
              | inr m ↦ (elim m [ inl a ↦ absurd (o.1 (only j u a)) | inr n ↦ absurd n ])
            ])
            | inr n ↦ absurd n.1
          ];
        };
        above = above_left I N xs (p ∷ b ∷ []) ys S k v (inr (inl i));
        below = below_right I N xs (p ∷ b ∷ []) ys S k v (inr (inl i));
      }

-- ---- a leaf split: c is a block outside the chain

module _ (I J : ℕ → Leaf) (N : ℕ) (xs : List ℕ) (b c : ℕ) (ys : List ℕ) (S : Sound I N (xs ++ (b ∷ ys)))
    (fresh : All (λ x. x ≢ c) (xs ++ (b ∷ ys))) (others : (x : ℕ) → x ≢ b → x ≢ c → Same (I x) (J x)) where
  -- the leaves around it
  pub agree_around : Agree xs I J × Agree ys I J
  agree_around = (both xs out.0 new.0, both ys out.1 new.1.1)
    where
      out : All (λ x. x ≢ b) xs × All (λ y. y ≢ b) ys
      out = distinct_at xs b ys S.distinct

      new : All (λ x. x ≢ c) xs × All (λ x. x ≢ c) (b ∷ ys)
      new = all_split (λ x. x ≢ c) xs (b ∷ ys) fresh

      both : (zs : List ℕ) → All (λ x. x ≢ b) zs → All (λ x. x ≢ c) zs → Agree zs I J
      both = all_zip (λ x. x ≢ b) (λ x. x ≢ c) (λ x. Same (I x) (J x)) others

  pub split_leaf : (k : ℕ) (P : ℕ → Type 0) → c < N → Halves (I b) (J b) (J c) k P → (J b).lock ≡ false → (J b).next ≡ c
      → (J c).lock ≡ false → (J c).next ≡ (I b).next → ((j u : ℕ) → Has I xs j u → j < k)
      → ((j u : ℕ) → Has I ys j u → k < j) → Changed I J N (xs ++ (b ∷ ys)) (xs ++ (b ∷ c ∷ ys)) k P
  split_leaf k P inside h lock_b next_b lock_c next_c above below =
      replaced I J N xs (b ∷ []) (b ∷ c ∷ []) ys k P R S
    where
      good : Good I N b
      good = (part_good I N xs (b ∷ []) ys S).0

      R : Replaced I J N xs (b ∷ []) (b ∷ c ∷ []) ys k P
      R = record {
        left = agree_around.0;
        right = agree_around.1;
        starts = starts_as xs b ys (c ∷ ys) S.starts;
        ends = λ a z l. (l.0, (next_b, next_c ∙ l.1));
        leaves = (
          record { unlocked = lock_b; near = rw next_b inside; right = h.right_old; filled = inr h.some_old },
          (
            record { unlocked = lock_c; near = rw next_c good.near; right = h.right_new; filled = inr h.some_new },
            tt,
          ),
        );
        distinct = distinct_after xs b c ys fresh S.distinct;
        rising = (λ k v j u i g. elim g [ inl a ↦ h.below k v j u i a | inr n ↦ absurd n ], (λ k v j u i g. absurd g, tt));
        map = record {
          to = λ j u g.
              elim (h.map.to j u (elim g [ inl i ↦ inl i | inr m ↦ (elim m [ inl i ↦ inr i | inr n ↦ absurd n ]) ])) [
                | inl o ↦ inl (inl o.0, o.1)
                | inr n ↦ inr n
              ];
          back = λ j u g.
              elim (h.map.back j u (elim g [
                | inl o ↦ (elim o.0 [ inl i ↦ inl (i, o.1) | inr n ↦ absurd n ])
                | inr n ↦ inr n
              ])) [ inl i ↦ inl i | inr i ↦ inr (inl i) ];
        };
        above = above;
        below = below;
      }

-- a change of the leaf b at one of its keys, to what it had there, leaves the map as it was
pub changed_stays : (I J : ℕ → Leaf) (N : ℕ) (xs : List ℕ) (b : ℕ) (ys cs : List ℕ) → Sound I N (xs ++ (b ∷ ys))
    → (k v : ℕ) → In (I b) k v → Changed I J N (xs ++ (b ∷ ys)) cs k (In (I b) k) → Stays I J N (xs ++ (b ∷ ys)) cs
changed_stays I J N xs b ys cs S k v i c = record {
  sound = c.sound;
  map = record {
    to = λ j u h. elim (c.map.to j u h) [
      | inl o ↦ o.0
      | inr n ↦ has_right I j u xs (b ∷ ys) (inl (rw n.0 n.1))
    ];
    back = λ j u h. c.map.back j u (elim (ℕ_discrete j k) [
      | yes e ↦ inr (e, target_find I N xs b ys S k here u (rw e at h))
      | no ne ↦ inl (h, ne)
    ]);
  };
}
  where
    here : Target I b ys k
    here = record { low = inr (k, v, i, omega arith); high = below_right I N xs (b ∷ []) ys S k v (inl i) }
