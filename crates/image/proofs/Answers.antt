-- What the calls answer, by the rising list of the map: find by the search in the target leaf, and the lists after a
-- change. And that leaves that agree in all that is used give equal answers of every search.
use Rattle.std.specs.Prelude.{◌≡◌, List, [], ◌∷◌, ◌++◌, ℕ, ◌≤◌, ◌<◌, Option, Some, None}
use Rattle.std.proofs.Math.Path.{refl}
use Rattle.std.proofs.Common.{sym, ap, ◌∙◌, inl, arith}
use Rattle.leaf.specs.Leaf.{Leaf, Taken, In, Right}
use Rattle.leaf.specs.Search.{slot_of, least_from, key_or0, smallest_of}
use Rattle.leaf.proofs.SearchLaws.{Holds, slot_at, slot_missing, Least, least_at, least_none}
use Rattle.image.specs.Map.{Altered, Lists, put_in, without, lookup}
use Rattle.image.proofs.ListLaws.{lists_unique, put_lists, without_lists, lookup_some, lookup_none}
use Rattle.image.specs.Chain.{Has, Sound}
use Rattle.image.proofs.ChainLaws.{has_right}
use Rattle.image.proofs.Stretch.{Changed, part_good}
use Rattle.image.proofs.Changes.{Stays}
use Rattle.image.specs.Target.{Target}
use Rattle.image.proofs.TargetLaws.{target_find}
use Rattle.image.proofs.Same.{Slots, slots_taken, taken_slots}
use Rattle.image.specs.Entries.{list_of}
use Rattle.image.proofs.Entries.{chain_lists}
use Rattle.image.specs.Answers.{value_at}

-- ---- the lists after a change

module _ (I J : ℕ → Leaf) (N : ℕ) (bs cs : List ℕ) (S : Sound I N bs) where
  pub put_list_lem : (k v : ℕ) → Changed I J N bs cs k (λ u. u ≡ v) → list_of J cs ≡ put_in k v (list_of I bs)
  put_list_lem k v c =
      lists_unique (Has J cs) (Altered (Has I bs) k (λ u. u ≡ v)) (list_of J cs) (put_in k v (list_of I bs)) c.map
      (chain_lists J N cs c.sound)
      (put_lists (chain_lists I N bs S) k v)

  pub del_list_lem : (k : ℕ) → Changed I J N bs cs k (λ u. ⊥) → list_of J cs ≡ without k (list_of I bs)
  del_list_lem k c =
      lists_unique (Has J cs) (Altered (Has I bs) k (λ u. ⊥)) (list_of J cs) (without k (list_of I bs)) c.map
      (chain_lists J N cs c.sound)
      (without_lists (chain_lists I N bs S) k)

  pub stays_list : Stays I J N bs cs → list_of J cs ≡ list_of I bs
  stays_list s =
      lists_unique (Has J cs) (Has I bs) (list_of J cs) (list_of I bs) s.map (chain_lists J N cs s.sound)
      (chain_lists I N bs S)

-- ---- find

pub find_lookup : (I : ℕ → Leaf) (N : ℕ) (xs : List ℕ) (b : ℕ) (ys : List ℕ) → Sound I N (xs ++ (b ∷ ys)) → (k : ℕ)
    → Target I b ys k → value_at (I b) (slot_of (I b) k) ≡ lookup k (list_of I (xs ++ (b ∷ ys)))
find_lookup I N xs b ys S k t = go (slot_of (I b) k) refl
  where
    L : Lists (Has I (xs ++ (b ∷ ys))) (list_of I (xs ++ (b ∷ ys)))
    L = chain_lists I N (xs ++ (b ∷ ys)) S

    right : Right (I b)
    right = (part_good I N xs (b ∷ []) ys S).0.right

    go : (x : Option ℕ) → slot_of (I b) k ≡ x → value_at (I b) x ≡ lookup k (list_of I (xs ++ (b ∷ ys)))
    go (Some s) e =
        let h : Holds (I b) k s = (slot_at (I b) k s e).1 in
        sym (lookup_some k L ((I b).val s) (has_right I k ((I b).val s) xs (b ∷ ys)
        (inl (record { at = s; taken = h.taken; key_is = h.key; val_is = refl }))))
    go None e =
        sym (lookup_none k L (λ v h.
        let i : In (I b) k v = target_find I N xs b ys S k t v h in
        slot_missing (I b) right k e i.at i.taken i.key_is))

-- ---- leaves that agree

module _ {L M : Leaf} (S : Slots L M) (r : Right L) where
  -- the key that M has in an occupied slot of L, and that the slot is one of M's
  key_is : (s : ℕ) → Taken L s → (M.key s ≡ L.key s) × (s < M.size)
  key_is s h = (S.key s h, rw S.size (r.inside s h))

  pub slots_least : (k : ℕ) → least_from M k ≡ least_from L k
  slots_least k = go (least_from L k) (least_from M k) refl refl
    where
      go : (x y : Option ℕ) → least_from L k ≡ x → least_from M k ≡ y → least_from M k ≡ least_from L k
      go (Some s) (Some t) e f =
          let a : Least L k L.size s = least_at L k s e in
          let b : Least M k M.size t = least_at M k t f in
          let u : Taken L t = slots_taken S t b.taken in
          let p : (M.key s ≡ L.key s) × (s < M.size) = key_is s a.taken in
          let q : (M.key t ≡ L.key t) × (t < M.size) = key_is t u in
          let le : L.key s ≤ L.key t = a.least t (r.inside t u) u (omega (arith, q.0, b.from)) in
          let ge : M.key t ≤ M.key s = b.least s p.1 (taken_slots S s a.taken) (omega (arith, p.0, a.from)) in
          f ∙ ap Some (r.differ t s u a.taken (omega (arith, p.0, q.0))) ∙ sym e
      go (Some s) None e f =
          let a : Least L k L.size s = least_at L k s e in
          let p : (M.key s ≡ L.key s) × (s < M.size) = key_is s a.taken in
          absurd (omega (arith, least_none M k f s p.1 (taken_slots S s a.taken), p.0, a.from))
      go None (Some t) e f =
          let b : Least M k M.size t = least_at M k t f in
          let u : Taken L t = slots_taken S t b.taken in
          absurd (omega (arith, least_none L k e t (r.inside t u) u, (key_is t u).0, b.from))
      go None None e f = f ∙ sym e

  pub slots_smallest : smallest_of M ≡ smallest_of L
  unfolding smallest_of
  slots_smallest = rw (slots_least 0) (go (least_from L 0) refl)
    where
      go : (x : Option ℕ) → least_from L 0 ≡ x → key_or0 M x ≡ key_or0 L x
      go (Some s) e = S.key s (least_at L 0 s e).taken
      go None e = refl
