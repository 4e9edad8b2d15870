-- The rising list of a map: there is one, and the plain map's operations on it are those on the map.
use Rattle.std.specs.Prelude.{◌≡◌, refl, Bool, true, ◌⊎◌, ◌≢◌, ℕ, suc, ◌≤◌, ◌<◌, eqb, Option, Some, None}
use Rattle.std.proofs.Common.{sym, ap₂, ◌∙◌}
use Rattle.std.proofs.Math.Path.{ap}
use Rattle.std.proofs.Math.Bool.{cond, not}
use mathlib.Core.List.{List, [], ◌∷◌, ◌++◌}
use Rattle.std.proofs.Math.Logic.{inl, inr}
use Rattle.std.proofs.Math.Decide.{dec_lt}
use native.Mathlib.Omega.{arith}
use borrow.Author.Tests.{ltb-true, leb-true, eqb-true, eqb-false, lt-ltb, le-leb, eq-eqb, ne_eqb, not-true}
use Rattle.std.proofs.Math.Dec.{ltb}
use Rattle.words.specs.Bools.{by_test, never}
use Rattle.image.specs.Map.{Map, SameMap, Altered, Entry, entry, Member, Sorted, Lists}
use Rattle.image.specs.Map.{only, put_in, without, lookup, starting_at}
use Rattle.image.proofs.MapLaws.{map_sym, map_trans}

-- ---- one list

member_above : (lo : ℕ) (l : List Entry) → Sorted lo l → (k v : ℕ) → Member l k v → lo ≤ k
member_above lo [] s k v x'' = elim x'' [ ]
member_above lo (e ∷ l) s k v (inl p) = omega (arith, s.0, p.0)
member_above lo (e ∷ l) s k v (inr m) = omega (arith, s.0, member_above (suc e.key) l s.1 k v m)

-- the heads of two lists with the same members
heads_same : (d e : Entry) (l m : List Entry) (lo : ℕ) → Sorted lo (d ∷ l) → Sorted lo (e ∷ m)
    → SameMap (Member (d ∷ l)) (Member (e ∷ m)) → (d.key ≡ e.key) × (d.val ≡ e.val)
heads_same d e l m lo s t q = go (q.to d.key d.val (inl (refl, refl))) (q.back e.key e.val (inl (refl, refl)))
  where
    go : Member (e ∷ m) d.key d.val → Member (d ∷ l) e.key e.val → (d.key ≡ e.key) × (d.val ≡ e.val)
    go (inl p) r = p
    go (inr a) (inl r) = (sym r.0, sym r.1)
    go (inr a) (inr b) =
        absurd (omega (
          arith,
          member_above (suc e.key) m t.1 d.key d.val a,
          member_above (suc d.key) l s.1 e.key e.val b,
        ))

tails_in : (d e : Entry) (l m : List Entry) → d.key ≡ e.key → Sorted (suc d.key) l
    → SameMap (Member (d ∷ l)) (Member (e ∷ m)) → (k v : ℕ) → Member l k v → Member m k v
tails_in d e l m p s q k v h =
    elim (q.to k v (inr h)) [
      | inl a ↦ absurd (omega (arith, member_above (suc d.key) l s k v h, a.0))
      | inr b ↦ b
    ]

pub sorted_unique : (l m : List Entry) (lo : ℕ) → Sorted lo l → Sorted lo m → SameMap (Member l) (Member m) → l ≡ m
sorted_unique [] [] lo s t q = refl
sorted_unique [] (e ∷ m) lo s t q = absurd (q.back e.key e.val (inl (refl, refl)))
sorted_unique (d ∷ l) [] lo s t q = absurd (q.to d.key d.val (inl (refl, refl)))
sorted_unique (d ∷ l) (e ∷ m) lo s t q =
    let h : (d.key ≡ e.key) × (d.val ≡ e.val) = heads_same d e l m lo s t q in
    ap₂ (λ (x : Entry) (y : List Entry). x ∷ y) (λ i. record { key = h.0 i; val = h.1 i })
    (sorted_unique l m (suc d.key) s.1 (rw h.0 t.1) (record {
      to = tails_in d e l m h.0 s.1 q;
      back = tails_in e d m l (sym h.0) t.1 (map_sym q);
    }))

pub lists_unique : (G H : Map) (l m : List Entry) → SameMap G H → Lists G l → Lists H m → l ≡ m
lists_unique G H l m q a b =
    sorted_unique l m 0 a.sorted b.sorted (map_trans a.members (map_trans q (map_sym b.members)))

pub lists_map : {G H : Map} {l : List Entry} → SameMap G H → Lists G l → Lists H l
lists_map q a = record { sorted = a.sorted; members = map_trans a.members q }

-- one key has one value
pub sorted_function : (lo : ℕ) (l : List Entry) → Sorted lo l → (k u v : ℕ) → Member l k u → Member l k v → u ≡ v
sorted_function lo [] s k u v x3 _ = elim x3 [ ]
sorted_function lo (e ∷ l) s k u v (inl a) (inl b) = a.1 ∙ sym b.1
sorted_function lo (e ∷ l) s k u v (inl a) (inr b) = absurd (omega (arith, a.0, member_above (suc e.key) l s.1 k v b))
sorted_function lo (e ∷ l) s k u v (inr a) (inl b) = absurd (omega (arith, b.0, member_above (suc e.key) l s.1 k u a))
sorted_function lo (e ∷ l) s k u v (inr a) (inr b) = sorted_function (suc e.key) l s.1 k u v a b

-- ---- two lists, the second above the first

module _ (k v : ℕ) where
  pub member_left : (l m : List Entry) → Member l k v → Member (l ++ m) k v
  member_left [] m x' = elim x' [ ]
  member_left (e ∷ l) m (inl p) = inl p
  member_left (e ∷ l) m (inr h) = inr (member_left l m h)

  pub member_right : (l m : List Entry) → Member m k v → Member (l ++ m) k v
  member_right [] m h = h
  member_right (e ∷ l) m h = inr (member_right l m h)

  pub member_split : (l m : List Entry) → Member (l ++ m) k v → Member l k v ⊎ Member m k v
  member_split [] m h = inr h
  member_split (e ∷ l) m (inl p) = inl (inl p)
  member_split (e ∷ l) m (inr h) = elim (member_split l m h) [ inl a ↦ inl (inr a) | inr b ↦ inr b ]

sorted_raise : (lo hi : ℕ) (l : List Entry) → Sorted lo l → ((k v : ℕ) → Member l k v → hi ≤ k) → Sorted hi l
sorted_raise lo hi [] s f = tt
sorted_raise lo hi (e ∷ l) s f = (f e.key e.val (inl (refl, refl)), s.1)

pub sorted_join : (lo : ℕ) (l m : List Entry) → Sorted lo l → Sorted 0 m → ((k v : ℕ) → Member m k v → lo ≤ k)
    → ((k v j u : ℕ) → Member l k v → Member m j u → k < j) → Sorted lo (l ++ m)
sorted_join lo [] m s t f g = sorted_raise 0 lo m t f
sorted_join lo (e ∷ l) m s t f g = (
  s.0,
  sorted_join (suc e.key) l m s.1 t (λ k v. g e.key e.val k v (inl (refl, refl)))
      (λ k v j u a. g k v j u (inr a)),
)

-- ---- the entries whose key passes a test

module _ (p : ℕ → Bool) where
  pub only_member : (l : List Entry) (k v : ℕ) → Member (only p l) k v → Member l k v × (p k ≡ true)
  unfolding only
  only_member [] k v h = elim h [ ]
  only_member (e ∷ l) k v h =
      by_test (λ b. Member (cond b (e ∷ only p l) (only p l)) k v → Member (e ∷ l) k v × (p k ≡ true)) (p e.key)
      (λ q m. elim m [ inl a ↦ (inl a, ap p a.0 ∙ q) | inr b ↦ later (only_member l k v b) ])
      (λ q m. later (only_member l k v m))
      h
    where
      later : Member l k v × (p k ≡ true) → Member (e ∷ l) k v × (p k ≡ true)
      later r = (inr r.0, r.1)

  pub member_only : (l : List Entry) (k v : ℕ) → p k ≡ true → Member l k v → Member (only p l) k v
  unfolding only
  member_only [] k v t x'' = elim x'' [ ]
  member_only (e ∷ l) k v t (inl a) = rw (ap p (sym a.0) ∙ t) (inl a)
  member_only (e ∷ l) k v t (inr m) =
      by_test (λ b. Member (cond b (e ∷ only p l) (only p l)) k v) (p e.key)
      (λ q. inr (member_only l k v t m))
      (λ q. member_only l k v t m)

  pub sorted_only : (lo : ℕ) (l : List Entry) → Sorted lo l → Sorted lo (only p l)
  unfolding only
  sorted_only lo [] s = tt
  sorted_only lo (e ∷ l) s =
      by_test (λ b. Sorted lo (cond b (e ∷ only p l) (only p l))) (p e.key)
      (λ q. (s.0, sorted_only (suc e.key) l s.1))
      (λ q. sorted_raise (suc e.key) lo (only p l) (sorted_only (suc e.key) l s.1)
      (λ k v m. omega (arith, s.0, member_above (suc e.key) l s.1 k v (only_member l k v m).0)))

  -- a test that says Q of the key
  pub only_lists : {H : Map} {l : List Entry} → Lists H l → (Q : ℕ → Type 0) → ((j : ℕ) → p j ≡ true → Q j)
      → ((j : ℕ) → Q j → p j ≡ true) → Lists (λ j u. H j u × Q j) (only p l)
  only_lists {H} {l} L Q f g = record {
    sorted = sorted_only 0 l L.sorted;
    members = record {
      to = λ j u m.
          let r : Member l j u × (p j ≡ true) = only_member l j u m in
          (L.members.to j u r.0, f j r.1);
      back = λ j u h. member_only l j u (g j h.1) (L.members.back j u h.0);
    };
  }

-- ---- the operations

module _ {H : Map} {l : List Entry} (L : Lists H l) (k : ℕ) where
  pub put_lists : (v : ℕ) → Lists (Altered H k (λ u. u ≡ v)) (put_in k v l)
  unfolding put_in
  put_lists v = record {
    sorted =
        sorted_join 0 below (entry k v ∷ above) (sorted_only (λ j. ltb j k) 0 l L.sorted)
        (omega arith, sorted_raise 0 (suc k) above (sorted_only (λ j. ltb k j) 0 l L.sorted) (λ j u m. high j u m))
        (λ j u m. omega arith)
        (λ i w j u a b. elim b [ inl e ↦ omega (arith, low i w a, e.0) | inr m ↦ omega (arith, low i w a, high j u m) ]);
    members = record {
      to = λ j u m. elim (member_split j u below (entry k v ∷ above) m) [
        | inl a ↦ inl (old (λ j. ltb j k) j u a, λ e. omega (arith, low j u a))
        | inr b ↦ elim b [ inl e ↦ inr e | inr c ↦ inl (old (λ j. ltb k j) j u c, λ e. omega (arith, high j u c)) ]
      ];
      back = λ j u h. elim h [
        | inl o ↦ let m : Member l j u = L.members.back j u o.0 in
            let ne : j ≢ k = o.1 in
            elim (dec_lt j k) [
              | yes a ↦ member_left j u below (entry k v ∷ above) (member_only (λ j. ltb j k) l j u (lt-ltb j k a) m)
              | no a ↦ member_right j u below (entry k v ∷ above)
                  (inr (member_only (λ j. ltb k j) l j u (lt-ltb k j (omega arith)) m))
            ]
        | inr n ↦ member_right j u below (entry k v ∷ above) (inl n)
      ];
    };
  }
    where
      below : List Entry
      below = only (λ j. ltb j k) l

      above : List Entry
      above = only (λ j. ltb k j) l

      old : (p : ℕ → Bool) (j u : ℕ) → Member (only p l) j u → H j u
      old p j u m = L.members.to j u (only_member p l j u m).0

      low : (j u : ℕ) → Member (only (λ j. ltb j k) l) j u → j < k
      low j u m = ltb-true j k (only_member (λ j. ltb j k) l j u m).1

      high : (j u : ℕ) → Member (only (λ j. ltb k j) l) j u → k < j
      high j u m = ltb-true k j (only_member (λ j. ltb k j) l j u m).1

  pub without_lists : Lists (Altered H k (λ u. ⊥)) (without k l)
  unfolding without
  without_lists =
      lists_map
      (record { to = λ j u h. inl h; back = λ j u h. elim h [ inl o ↦ o | inr n ↦ absurd n.1 ] })
      (only_lists _ L (λ j. j ≢ k) (λ j e. eqb-false j k (not-true (eqb j k) e)) (λ j ne. ap not (ne_eqb j k ne)))

  pub starting_lists : Lists (λ j u. H j u × (k ≤ j)) (starting_at k l)
  unfolding starting_at
  starting_lists = only_lists _ L (λ j. k ≤ j) (λ j e. leb-true k j e) (λ j h. le-leb k j h)

-- ---- lookup

module _ (k : ℕ) where
  found_member : (l : List Entry) (v : ℕ) → lookup k l ≡ Some v → Member l k v
  unfolding lookup
  found_member [] v q = never cc
  found_member (e ∷ l) v q =
      by_test (λ b. cond b (Some e.val) (lookup k l) ≡ Some v → Member (e ∷ l) k v) (eqb e.key k)
      (λ t h. inl (sym (eqb-true e.key k t), cc))
      (λ t h. inr (found_member l v h))
      q

  member_found : (lo : ℕ) (l : List Entry) (v : ℕ) → Sorted lo l → Member l k v → lookup k l ≡ Some v
  unfolding lookup
  member_found lo [] v s x'' = elim x'' [ ]
  member_found lo (e ∷ l) v s (inl a) = rw (eq-eqb e.key k (sym a.0), a.1)
  member_found lo (e ∷ l) v s (inr m) =
      rw (ne_eqb e.key k (λ q. omega (arith, member_above (suc e.key) l s.1 k v m)))
      (member_found (suc e.key) l v s.1 m)

  absent_missing : (l : List Entry) → ((v : ℕ) → Member l k v → ⊥) → lookup k l ≡ None
  absent_missing l f = go (lookup k l) refl
    where
      go : (x : Option ℕ) → lookup k l ≡ x → lookup k l ≡ None
      go (Some v) e = absurd (f v (found_member l v e))
      go None e = e

  pub lookup_some : {H : Map} {l : List Entry} → Lists H l → (v : ℕ) → H k v → lookup k l ≡ Some v
  lookup_some {H} {l} L v h = member_found 0 l v L.sorted (L.members.back k v h)

  pub some_lookup : {H : Map} {l : List Entry} → Lists H l → (v : ℕ) → lookup k l ≡ Some v → H k v
  some_lookup {H} {l} L v e = L.members.to k v (found_member l v e)

  pub lookup_none : {H : Map} {l : List Entry} → Lists H l → ((v : ℕ) → H k v → ⊥) → lookup k l ≡ None
  lookup_none {H} {l} L f = absent_missing l (λ v m. f v (L.members.to k v m))
