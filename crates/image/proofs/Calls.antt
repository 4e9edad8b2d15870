-- What each call does to a sound image, leaf by leaf: set, del, plain put with and without moves, the leaf taken out,
-- the split.
use Rattle.std.specs.Prelude.{◌≡◌, true, false, List, [], ◌∷◌, ◌++◌, ◌⊎◌, ◌≢◌, ℕ, suc, ◌≤◌, ◌<◌}
use Rattle.std.proofs.Common.{sym, ap, ◌∙◌, inl, inr, arith}
use Rattle.words.specs.Update.{upd_other}
use Rattle.leaf.specs.Leaf.{Leaf, Taken, In, Right}
use Rattle.leaf.specs.Search.{count}
use Rattle.image.specs.Chain.{All, Filled, Has, Sound}
use Rattle.image.proofs.ChainLaws.{Agree, agree_map}
use Rattle.image.proofs.Stretch.{Changed, above_left, below_right, part_good}
use Rattle.image.specs.Target.{Target}
use Rattle.image.proofs.TargetLaws.{target_above}
use Rattle.image.proofs.Same.{Slots, Same, slots_in, slots_sym, slots_filled, own}
use Rattle.image.proofs.Edits.{erase, insert, Absent, insert_new, taken_insert}
use Rattle.image.proofs.CountLaws.{count_erase, count_insert, count_filled, count_only, count_slots}
use Rattle.image.proofs.EditMaps.{Gives, Keeps, keeps_refl, gives_keeps, gives_slots, erase_gives, insert_gives}
use Rattle.image.proofs.EditMaps.{set_gives, moves, Fits, moves_keeps}
use Rattle.image.specs.Copies.{Copy}
use Rattle.image.proofs.Parting.{Parts, Halves, halves_plain, halves_new, halves_slots}
use Rattle.image.proofs.Changes.{one_leaf, unlink, split_leaf, agree_around}

-- ---- one leaf

module _ (I J : ℕ → Leaf) (N : ℕ) (xs : List ℕ) (b : ℕ) (ys : List ℕ) (S : Sound I N (xs ++ (b ∷ ys)))
    (others : (x : ℕ) → x ≢ b → Same (I x) (J x)) (lock : (J b).lock ≡ (I b).lock) (next : (J b).next ≡ (I b).next) where
  -- the image J, with the chain as it was
  abbrev Comes : ℕ → (ℕ → Type 0) → Type 0
  Comes k P = Changed I J N (xs ++ (b ∷ ys)) (xs ++ (b ∷ ys)) k P

  right : Right (I b)
  right = (part_good I N xs (b ∷ []) ys S).0.right

  -- a change at the key of an occupied slot
  at_entry : (s : ℕ) (P : ℕ → Type 0) → Taken (I b) s → Gives (I b) (J b) ((I b).key s) P → (b ≡ 0) ⊎ Filled (J b)
      → Comes ((I b).key s) P
  at_entry s P h g f =
      one_leaf I J N xs b ys ((I b).key s) P S others g lock next f
      (above_left I N xs (b ∷ []) ys S ((I b).key s) ((I b).val s) (inl (own (I b) s h)))
      (below_right I N xs (b ∷ []) ys S ((I b).key s) ((I b).val s) (inl (own (I b) s h)))

  pub set_sound : (s v : ℕ) → Taken (I b) s → Slots (insert (erase (I b) s) s ((I b).key s) v) (J b)
      → Changed I J N (xs ++ (b ∷ ys)) (xs ++ (b ∷ ys)) ((I b).key s) (λ u. u ≡ v)
  set_sound s v h e =
      at_entry s (λ u. u ≡ v) h (gives_slots (set_gives (I b) right s h v) e)
      (inr (slots_filled e (record { at = s; taken = insert_new (erase (I b) s) s ((I b).key s) v })))

  pub del_sound : (s : ℕ) → Taken (I b) s → (b ≡ 0) ⊎ (1 < count (I b)) → Slots (erase (I b) s) (J b)
      → Changed I J N (xs ++ (b ∷ ys)) (xs ++ (b ∷ ys)) ((I b).key s) (λ u. ⊥)
  del_sound s h more e =
      at_entry s (λ u. ⊥) h (gives_slots (erase_gives (I b) right s h) e)
      (elim more [
        | inl z ↦ inl z
        | inr n ↦ inr (slots_filled e (count_filled (erase (I b) s) (omega (arith, count_erase (I b) right s h))))
      ])

  module _ (k v : ℕ) (t : Target I b ys k) (absent : Absent (I b) k) (s : ℕ) (slot : s < (I b).size)
      (vacant : (I b).occ s ≡ false) where
    put_gives : Gives (I b) (insert (I b) s k v) k (λ u. u ≡ v)
    put_gives = insert_gives (I b) right s k v slot vacant absent

    -- the entry put in, and then a change that keeps the leaf's map
    put_kept : (L : Leaf) → Keeps (insert (I b) s k v) L → Slots L (J b) → Comes k (λ u. u ≡ v)
    put_kept L q e =
        one_leaf I J N xs b ys k (λ u. u ≡ v) S others (gives_slots (gives_keeps put_gives q) e) lock next
        (inr (slots_filled e (count_filled L (omega (arith, q.count, count_insert (I b) s k v slot vacant)))))
        (target_above I N xs b ys S k t)
        t.high

    pub put_sound : Slots (insert (I b) s k v) (J b) → Changed I J N (xs ++ (b ∷ ys)) (xs ++ (b ∷ ys)) k (λ u. u ≡ v)
    put_sound e = put_kept (insert (I b) s k v) (keeps_refl (insert (I b) s k v) put_gives.right) e

    -- with entries of line 0 moved to vacant slots behind s
    module _ (cs : List Copy) (e : ℕ) (line : (j : ℕ) → j < 3 → Taken (I b) j) (low : 3 ≤ s) (end : e ≤ (I b).size)
        (fits : Fits (I b).occ 0 (suc s) e cs) (is : Slots (moves (insert (I b) s k v) cs) (J b)) where
      moved_keeps : Keeps (insert (I b) s k v) (moves (insert (I b) s k v) cs)
      moved_keeps =
          moves_keeps (I b).occ cs (insert (I b) s k v) 0 (suc s) e put_gives.right
          (λ j a c. taken_insert (I b) s k v j (omega arith) (line j c))
          (λ q a c. upd_other (I b).occ s true q (omega arith))
          (omega arith)
          end
          fits

      pub put_moved : Changed I J N (xs ++ (b ∷ ys)) (xs ++ (b ∷ ys)) k (λ u. u ≡ v) × (count (J b) ≡ suc (count (I b)))
      put_moved = (
        put_kept (moves (insert (I b) s k v) cs) moved_keeps is,
        count_slots is ∙ moved_keeps.count ∙ count_insert (I b) s k v slot vacant,
      )

-- ---- a leaf taken out

pub del_unlink : (I J : ℕ → Leaf) (N : ℕ) (xs : List ℕ) (p b : ℕ) (ys : List ℕ) → Sound I N (xs ++ (p ∷ b ∷ ys))
    → ((x : ℕ) → x ≢ p → Same (I x) (J x)) → (s : ℕ) → Taken (I b) s → count (I b) ≡ 1 → Slots (I p) (J p)
    → (J p).lock ≡ (I p).lock → (J p).next ≡ (I b).next
    → Changed I J N (xs ++ (p ∷ b ∷ ys)) (xs ++ (p ∷ ys)) ((I b).key s) (λ u. ⊥)
del_unlink I J N xs p b ys S others s h one =
    unlink I J N xs p b ys S others ((I b).key s) ((I b).val s) (own (I b) s h)
    (λ j u i. sym i.key_is ∙ ap (I b).key (count_only (I b) right s i.at one h i.taken))
  where
    right : Right (I b)
    right = (part_good I N xs (p ∷ b ∷ []) ys S).1.0.right

-- ---- the split

-- of the entries of the chain's leaf b those of L stay, and the j of M go to block c, which is outside the chain
pub record Divided (I J : ℕ → Leaf) (N : ℕ) (xs : List ℕ) (b c : ℕ) (ys : List ℕ) (L M : Leaf) (j : ℕ) : Type 0 where
  pub sound : Sound I N (xs ++ (b ∷ ys))
  pub fresh : All (λ x. x ≢ c) (xs ++ (b ∷ ys))
  pub others : (x : ℕ) → x ≢ b → x ≢ c → Same (I x) (J x)
  pub parts : Parts (I b) L M j
  pub old : Slots L (J b)
  pub inside : c < N
  pub some : 0 < j
  pub more : j < count (I b)
  pub lock_b : (J b).lock ≡ false
  pub next_b : (J b).next ≡ c
  pub lock_c : (J c).lock ≡ false
  pub next_c : (J c).next ≡ (I b).next

module _ {I J : ℕ → Leaf} {N : ℕ} {xs : List ℕ} {b c : ℕ} {ys : List ℕ} {L M : Leaf} {j : ℕ}
    (D : Divided I J N xs b c ys L M j) where
  -- by the two halves that come of it
  by_halves : (k : ℕ) (P : ℕ → Type 0) → Halves (I b) (J b) (J c) k P → ((i u : ℕ) → Has I xs i u → i < k)
      → ((i u : ℕ) → Has I ys i u → k < i) → Changed I J N (xs ++ (b ∷ ys)) (xs ++ (b ∷ c ∷ ys)) k P
  by_halves k P h =
      split_leaf I J N xs b c ys D.sound D.fresh D.others k P D.inside h D.lock_b D.next_b D.lock_c
      D.next_c

  -- the map stays: at any key of the leaf
  pub split_sound : (k v : ℕ) → In (I b) k v → Slots M (J c)
      → Changed I J N (xs ++ (b ∷ ys)) (xs ++ (b ∷ c ∷ ys)) k (In (I b) k)
  split_sound k v i e =
      by_halves k (In (I b) k) (halves_slots (halves_plain (I b) L M j D.parts D.some D.more k) D.old e)
      (above_left I N xs (b ∷ []) ys D.sound k v (inl i))
      (below_right I N xs (b ∷ []) ys D.sound k v (inl i))

  -- the new entry in slot q of the new leaf
  pub split_put : (k v : ℕ) → Target I b ys k → Absent (I b) k → (i u : ℕ) → In M i u → i < k → (q : ℕ) → q < M.size
      → M.occ q ≡ false → Slots (insert M q k v) (J c)
      → Changed I J N (xs ++ (b ∷ ys)) (xs ++ (b ∷ c ∷ ys)) k (λ w. w ≡ v)
  split_put k v t absent i u m l q slot free e =
      by_halves k (λ w. w ≡ v)
      (halves_slots (halves_new (I b) L M j D.parts D.some D.more k v i u q slot free absent m l) D.old e)
      (target_above I N xs b ys D.sound k t)
      t.high

  -- a key below all that went: its target stays
  module _ (new : Slots M (J c)) (k : ℕ) (stays : (i u : ℕ) → In M i u → k < i) where
    pub split_target : Target I b ys k → Target J b (c ∷ ys) k
    split_target t = record {
      low = elim t.low [
        | inl e ↦ inl e
        | inr r ↦ elim (D.parts.map.back r.0 r.1 r.2) [
          | inl a ↦ inr (r.0, r.1, slots_in D.old r.0 r.1 a, r.3)
          | inr a ↦ absurd (omega (arith, stays r.0 r.1 a, r.3))
        ]
      ];
      high = λ i u h. elim h [
        | inl a ↦ stays i u (slots_in (slots_sym new) i u a)
        | inr a ↦ t.high i u ((agree_map I J ys around.1).to i u a)
      ];
    }
      where
        around : Agree xs I J × Agree ys I J
        around = agree_around I J N xs b c ys D.sound D.fresh D.others
