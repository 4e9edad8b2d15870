-- The split of a leaf: the entries of its largest keys taken one by one to a new leaf.
use Rattle.std.specs.Prelude.{◌≡◌, refl, true, false, List, [], ◌∷◌, ◌⊎◌, ◌≢◌, ℕ, suc, ◌+◌, ◌≤◌, ◌<◌, length}
use Rattle.std.proofs.Common.{sym, ap, ◌∙◌, inl, inr, arith}
use Rattle.std.proofs.Math.Decide.{ℕ_discrete, dec_lt}
use Rattle.words.specs.Bools.{differ}
use Rattle.words.specs.Update.{upd_other}
use Rattle.words.specs.BelowLaws.{count_zero}
use Rattle.leaf.specs.Leaf.{Leaf, Taken, In, Right}
use Rattle.leaf.specs.Search.{count}
use Rattle.image.specs.Map.{SameMap, Altered}
use Rattle.image.proofs.MapLaws.{map_trans, altered_self}
use Rattle.image.specs.Chain.{All, Distinct, Filled}
use Rattle.image.proofs.ChainLaws.{all_map, all_zip}
use Rattle.image.proofs.Same.{Slots, slots_sym, slots_in, slots_right, slots_filled, own, in_unique}
use Rattle.image.proofs.Edits.{erase, insert, Absent, insert_new, taken_erase, erase_taken, erase_right}
use Rattle.image.proofs.Edits.{in_erase, erase_in, in_new, in_insert, insert_in}
use Rattle.image.proofs.CountLaws.{count_erase, count_insert, count_filled, count_slots}
use Rattle.image.proofs.EditMaps.{Gives, insert_gives}
use Rattle.image.proofs.Order.{KeysRise, Upper}

-- a leaf of z slots with no entry yet
abbrev pub empty_leaf : ℕ → ℕ → Leaf
empty_leaf z n = record { size = z; lock = false; next = n; occ = λ s. false; fp = λ s. 0; key = λ s. 0; val = λ s. 0 }

-- the old leaf without the slots ss, and the new one with their entries in the slots from t on
abbrev pub thin : Leaf → List ℕ → Leaf
thin L [] = L
thin L (s ∷ ss) = thin (erase L s) ss

abbrev pub gather : (ℕ → ℕ) → (ℕ → ℕ) → Leaf → ℕ → List ℕ → Leaf
gather key val M t [] = M
gather key val M t (s ∷ ss) = gather key val (insert M t (key s) (val s)) (suc t) ss

-- one of two leaves has the entry
abbrev pub Either : Leaf → Leaf → ℕ → ℕ → Type 0
Either L M k v = In L k v ⊎ In M k v

-- ---- entries taken from L to M, in any order: j of the z entries of B so far

record Parted (B : Leaf) (z : ℕ) (L M : Leaf) (j : ℕ) : Type 0 where
  right_old : Right L
  right_new : Right M
  map : SameMap (Either L M) (In B)
  apart : (k u v : ℕ) → In L k u → In M k v → ⊥
  old : count L + j ≡ z
  new : count M ≡ j

no_entry : (z n s : ℕ) → Taken (empty_leaf z n) s → ⊥
no_entry z n s t = differ (sym t)

parted_start : (L : Leaf) (z n : ℕ) → Right L → Parted L (count L) L (empty_leaf z n) 0
unfolding count
parted_start L z n r = record {
  right_old = r;
  right_new = record {
    inside = λ s t. absurd (no_entry z n s t);
    prints = λ s t. absurd (no_entry z n s t);
    differ = λ s t a b q. absurd (no_entry z n s a);
  };
  map = record {
    to = λ k v h. elim h [ inl i ↦ i | inr i ↦ absurd (no_entry z n i.at i.taken) ];
    back = λ k v i. inl i;
  };
  apart = λ k u v h g. no_entry z n g.at g.taken;
  old = omega arith;
  new = count_zero (λ s. false) z (λ s h. refl);
}

module _ (B : Leaf) (z : ℕ) (L M : Leaf) (j : ℕ) (p : Parted B z L M j) (s : ℕ) (h : Taken L s) where
  parted_step : (t : ℕ) → t < M.size → M.occ t ≡ false
      → Parted B z (erase L s) (insert M t (L.key s) (L.val s)) (suc j)
  parted_step t l free = record {
    right_old = erase_right L s p.right_old;
    right_new = i.right;
    map = record {
      to = λ k v x. p.map.to k v (elim x [
        | inl a ↦ inl (erase_in L s p.right_old h k v a).0
        | inr b ↦ elim (insert_in M t (L.key s) (L.val s) k v b) [
          | inl c ↦ inr c
          | inr n ↦ inl (rw (n.0, n.1) (own L s h))
        ]
      ]);
      back = λ k v x. elim (p.map.back k v x) [
        | inl a ↦ elim (ℕ_discrete k (L.key s)) [
          | yes q ↦ inr (rw (q, one_value v (rw q at a)) (in_new M t (L.key s) (L.val s)))
          | no ne ↦ inl (in_erase L s k v ne a)
        ]
        | inr b ↦ inr (in_insert M t (L.key s) (L.val s) free k v b)
      ];
    };
    apart = λ k u v a b.
        let o : In L k u × (k ≢ L.key s) = erase_in L s p.right_old h k u a in
        elim (insert_in M t (L.key s) (L.val s) k v b) [ inl c ↦ p.apart k u v o.0 c | inr n ↦ o.1 n.0 ];
    old = omega (arith, count_erase L p.right_old s h, p.old);
    new = omega (arith, count_insert M t (L.key s) (L.val s) l free, p.new);
  }
    where
      one_value : (v : ℕ) → In L (L.key s) v → v ≡ L.val s
      one_value v a = in_unique L p.right_old (L.key s) v (L.val s) a (own L s h)

      i : Gives M (insert M t (L.key s) (L.val s)) (L.key s) (λ u. u ≡ L.val s)
      i =
          insert_gives M p.right_new t (L.key s) (L.val s) l free
          (λ u g. p.apart (L.key s) (L.val s) u (own L s h) g)

-- n vacant slots from t on
abbrev Vacant : Leaf → ℕ → ℕ → Type 0
Vacant M t n = (q : ℕ) → t ≤ q → q < t + n → (q < M.size) × (M.occ q ≡ false)

parted_all : (B : Leaf) (z : ℕ) (ss : List ℕ) (L M : Leaf) (t j : ℕ) → Parted B z L M j → Distinct ss
    → All (λ s. Taken L s) ss → Vacant M t (length ss)
    → Parted B z (thin L ss) (gather L.key L.val M t ss) (j + length ss)
parted_all B z [] L M t j p d a f = let e : j + 0 ≡ j = omega arith in rw e p
parted_all B z (s ∷ ss) L M t j p d a f =
    let e : j + suc (length ss) ≡ suc j + length ss = omega arith in
    let here : (t < M.size) × (M.occ t ≡ false) = f t (omega arith) (omega arith) in
    rw e
    (parted_all B z ss (erase L s) N (suc t) (suc j) (parted_step B z L M j p s a.0 t here.0 here.1) d.1
    (all_zip (λ c. c ≢ s) (λ c. Taken L c) (λ c. Taken (erase L s) c) (taken_erase L s) ss d.0 a.1)
    (λ q m l. let g : (q < M.size) × (M.occ q ≡ false) = f q (omega arith) (omega arith) in
    (g.0, upd_other M.occ t true q (omega arith) ∙ g.1)))
  where
    N : Leaf
    N = insert M t (L.key s) (L.val s)

-- ---- what stays and what went, where the slots are those of the largest keys

thin_taken : (ss : List ℕ) (L : Leaf) (t : ℕ) → Taken (thin L ss) t → Taken L t × All (λ s. s ≢ t) ss
thin_taken [] L t h = (h, tt)
thin_taken (s ∷ ss) L t h =
    let r : Taken (erase L s) t × All (λ c. c ≢ t) ss = thin_taken ss (erase L s) t h in
    let q : Taken L t × (t ≢ s) = erase_taken L s t r.0 in
    (q.0, (λ e. q.1 (sym e), r.1))

pub thin_rest : (ss : List ℕ) (L : Leaf) → ((thin L ss).lock ≡ L.lock) × ((thin L ss).key ≡ L.key)
thin_rest [] L = (refl, refl)
thin_rest (s ∷ ss) L = thin_rest ss (erase L s)

thin_low : (L : Leaf) (lo : ℕ) (ss : List ℕ) → Upper L lo ss → (k v : ℕ) → In (thin L ss) k v → k < lo
thin_low L lo ss u k v i =
    let r : Taken L i.at × All (λ s. s ≢ i.at) ss = thin_taken ss L i.at i.taken in
    let e : L.key i.at ≡ k = ap (λ (f : ℕ → ℕ). f i.at) (sym (thin_rest ss L).1) ∙ i.key_is in
    elim (dec_lt k lo) [ yes l ↦ l | no l ↦ absurd (u.all i.at r.0 (omega arith) r.1) ]

gather_high : (key val : ℕ → ℕ) (lo : ℕ) (ss : List ℕ) (M : Leaf) (t : ℕ) → All (λ s. lo ≤ key s) ss
    → ((k v : ℕ) → In M k v → lo ≤ k) → (k v : ℕ) → In (gather key val M t ss) k v → lo ≤ k
gather_high key val lo [] M t a f k v i = f k v i
gather_high key val lo (s ∷ ss) M t a f k v i =
    gather_high key val lo ss (insert M t (key s) (val s)) (suc t) a.1
    (λ j u g. elim (insert_in M t (key s) (val s) j u g) [ inl o ↦ f j u o | inr n ↦ omega (arith, n.0, a.0) ])
    k
    v
    i

keys_from : (L : Leaf) (lo : ℕ) (ss : List ℕ) → KeysRise L lo ss → All (λ s. lo ≤ L.key s) ss
keys_from L lo [] r = tt
keys_from L lo (s ∷ ss) r =
    let above : All (λ c. suc (L.key s) ≤ L.key c) ss = keys_from L (suc (L.key s)) ss r.1 in
    (r.0, all_map (λ c. suc (L.key s) ≤ L.key c) (λ c. lo ≤ L.key c) (λ c h. omega (arith, r.0)) ss above)

rise_distinct : (L : Leaf) (lo : ℕ) (ss : List ℕ) → KeysRise L lo ss → Distinct ss
rise_distinct L lo [] r = tt
rise_distinct L lo (s ∷ ss) r = (
  all_map (λ c. suc (L.key s) ≤ L.key c) (λ c. c ≢ s) (λ c h e. omega (arith, ap L.key e)) ss
      (keys_from L (suc (L.key s)) ss r.1),
  rise_distinct L (suc (L.key s)) ss r.1,
)

-- ---- the leaf B parted in L and M, whose keys are above those of L, with j entries

pub record Parts (B L M : Leaf) (j : ℕ) : Type 0 where
  pub right_old : Right L
  pub right_new : Right M
  pub map : SameMap (Either L M) (In B)
  pub below : (k v i u : ℕ) → In L k v → In M i u → k < i
  pub old : count L + j ≡ count B
  pub new : count M ≡ j

module _ (B : Leaf) (r : Right B) (lo : ℕ) (ss : List ℕ) (u : Upper B lo ss) (z n t : ℕ) (fits : t + length ss ≤ z) where
  -- the entries with keys from lo on are those that went
  pub gathered : (k v : ℕ) → In (gather B.key B.val (empty_leaf z n) t ss) k v → lo ≤ k
  gathered =
      gather_high B.key B.val lo ss (empty_leaf z n) t (keys_from B lo ss u.rising)
      (λ k v i. absurd (no_entry z n i.at i.taken))

  pub upper_parts : Parts B (thin B ss) (gather B.key B.val (empty_leaf z n) t ss) (length ss)
  upper_parts =
      let p : Parted B (count B) (thin B ss) (gather B.key B.val (empty_leaf z n) t ss) (0 + length ss) =
      parted_all B (count B) ss B (empty_leaf z n) t 0 (parted_start B z n r) (rise_distinct B lo ss u.rising) u.taken
      (λ q a b. (omega arith, refl)) in
      record {
        right_old = p.right_old;
        right_new = p.right_new;
        map = p.map;
        below = λ k v i w a b. omega (arith, thin_low B lo ss u k v a, gathered i w b);
        old = omega (arith, p.old);
        new = omega (arith, p.new);
      }

  pub gathered_all : (s : ℕ) → Taken B s → lo ≤ B.key s
      → In (gather B.key B.val (empty_leaf z n) t ss) (B.key s) (B.val s)
  gathered_all s h l =
      elim (upper_parts.map.back (B.key s) (B.val s) (own B s h)) [
        | inl a ↦ absurd (omega (arith, thin_low B lo ss u (B.key s) (B.val s) a))
        | inr a ↦ a
      ]

-- ---- and then with the new entry: the two leaves have the map of B but at k, where the values are those of P, in order

pub record Halves (B L M : Leaf) (k : ℕ) (P : ℕ → Type 0) : Type 0 where
  pub right_old : Right L
  pub right_new : Right M
  pub map : SameMap (Either L M) (Altered (In B) k P)
  pub below : (k v i u : ℕ) → In L k v → In M i u → k < i
  pub some_old : Filled L
  pub some_new : Filled M

module _ (B L M : Leaf) (j : ℕ) (p : Parts B L M j) (some : 0 < j) (more : j < count B) where
  -- the map stays
  pub halves_plain : (k : ℕ) → Halves B L M k (In B k)
  halves_plain k = record {
    right_old = p.right_old;
    right_new = p.right_new;
    map = map_trans p.map (altered_self (In B) k);
    below = p.below;
    some_old = count_filled L (omega (arith, p.old));
    some_new = count_filled M (omega (arith, p.new));
  }

  -- the new entry goes to slot t of the new leaf: its key is above one that is there
  pub halves_new : (k v i u t : ℕ) → t < M.size → M.occ t ≡ false → Absent B k → In M i u → i < k
      → Halves B L (insert M t k v) k (λ w. w ≡ v)
  halves_new k v i u t slot free absent m l = record {
    right_old = p.right_old;
    right_new = g.right;
    map = record {
      to = λ j w h. elim h [
        | inl a ↦ old j w (inl a)
        | inr a ↦ elim (g.map.to j w a) [ inl o ↦ old j w (inr o.0) | inr n ↦ inr n ]
      ];
      back = λ j w h. elim h [
        | inl o ↦ elim (p.map.back j w o.0) [ inl a ↦ inl a | inr a ↦ inr (g.map.back j w (inl (a, o.1))) ]
        | inr n ↦ inr (g.map.back j w (inr n))
      ];
    };
    below = λ j w e f a c. elim (g.map.to e f c) [
      | inl o ↦ p.below j w e f a o.0
      | inr n ↦ omega (arith, p.below j w i u a m, n.0)
    ];
    some_old = count_filled L (omega (arith, p.old));
    some_new = record { at = t; taken = insert_new M t k v };
  }
    where
      g : Gives M (insert M t k v) k (λ w. w ≡ v)
      g = insert_gives M p.right_new t k v slot free (λ w h. absent w (p.map.to k w (inr h)))

      old : (j w : ℕ) → Either L M j w → Altered (In B) k (λ w. w ≡ v) j w
      old j w h = let b : In B j w = p.map.to j w h in inl (b, λ e. absent w (rw e at b))

-- the same of leaves that are as L and M in their slots
pub halves_slots : {B L M L' M' : Leaf} {k : ℕ} {P : ℕ → Type 0} → Halves B L M k P → Slots L L' → Slots M M'
    → Halves B L' M' k P
halves_slots h s t = record {
  right_old = slots_right s h.right_old;
  right_new = slots_right t h.right_new;
  map = map_trans (record {
    to = λ j u x. elim x [ inl a ↦ inl (slots_in (slots_sym s) j u a) | inr a ↦ inr (slots_in (slots_sym t) j u a) ];
    back = λ j u x. elim x [ inl a ↦ inl (slots_in s j u a) | inr a ↦ inr (slots_in t j u a) ];
  }) h.map;
  below = λ j u e f a c. h.below j u e f (slots_in (slots_sym s) j u a) (slots_in (slots_sym t) e f c);
  some_old = slots_filled s h.some_old;
  some_new = slots_filled t h.some_new;
}

-- a key that was not there is not in the old leaf, and how many entries that has
pub parts_absent : {B L M L' : Leaf} {j : ℕ} → Parts B L M j → Slots L L' → (k : ℕ) → Absent B k → Absent L' k
parts_absent p s k f u i = f u (p.map.to k u (inl (slots_in (slots_sym s) k u i)))

pub parts_count : (B L M L' : Leaf) (j : ℕ) → Parts B L M j → Slots L L' → count L' + j ≡ count B
parts_count B L M L' j p s = omega (arith, count_slots s, p.old)

-- ---- what the edits leave of the rest of a leaf

pub gather_vacant : (key val : ℕ → ℕ) (ss : List ℕ) (M : Leaf) (t q : ℕ) → q < t
    → (gather key val M t ss).occ q ≡ M.occ q
gather_vacant key val [] M t q l = refl
gather_vacant key val (s ∷ ss) M t q l =
    gather_vacant key val ss (insert M t (key s) (val s)) (suc t) q (omega arith)
    ∙ upd_other M.occ t true q (omega arith)

pub gather_rest : (key val : ℕ → ℕ) (ss : List ℕ) (M : Leaf) (t : ℕ) → let L = gather key val M t ss in
    (L.size ≡ M.size) × (L.lock ≡ M.lock) × (L.next ≡ M.next)
gather_rest key val [] M t = (refl, refl, refl)
gather_rest key val (s ∷ ss) M t = gather_rest key val ss (insert M t (key s) (val s)) (suc t)
