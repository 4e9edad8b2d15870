-- What a change of one leaf does to its map: an entry erased, inserted, set, moved to another slot, several moved.
use Rattle.std.specs.Prelude.{◌≡◌, refl, Bool, true, false, cond, List, [], ◌∷◌, ℕ, zero, suc, ◌+◌, ◌≤◌, ◌<◌}
use Rattle.std.proofs.Common.{sym, ◌∙◌, inl, inr, arith}
use Rattle.std.proofs.Math.Decide.{ℕ_discrete}
use Rattle.words.specs.Bools.{by_test}
use Rattle.words.specs.Update.{upd, upd_same, upd_other}
use Rattle.leaf.specs.Leaf.{Leaf, Taken, In, Right}
use Rattle.leaf.specs.Search.{count}
use Rattle.image.specs.Map.{SameMap, Altered}
use Rattle.image.proofs.MapLaws.{map_refl, map_trans, altered_map, altered_twice}
use Rattle.image.specs.Copies.{Copy, copies}
use Rattle.image.proofs.Same.{Slots, slots_sym, slots_in, slots_right, own, in_unique, taken_vacant}
use Rattle.image.proofs.Edits.{erase, insert, Absent, taken_erase, erase_right, in_erase, erase_in, taken_insert}
use Rattle.image.proofs.Edits.{in_new, in_insert, insert_in, insert_right}
use Rattle.image.proofs.CountLaws.{count_erase, count_insert}

-- the leaf M is right, with the map of L but at k, where the values are those of P
pub record Gives (L M : Leaf) (k : ℕ) (P : ℕ → Type 0) : Type 0 where
  pub right : Right M
  pub map : SameMap (In M) (Altered (In L) k P)

-- the leaf M is right, with the map and as many entries as L
pub record Keeps (L M : Leaf) : Type 0 where
  pub right : Right M
  pub map : SameMap (In M) (In L)
  pub count : count M ≡ count L

pub keeps_refl : (L : Leaf) → Right L → Keeps L L
keeps_refl L r = record { right = r; map = map_refl (In L); count = refl }

pub keeps_trans : {L M Q : Leaf} → Keeps L M → Keeps M Q → Keeps L Q
keeps_trans a b = record { right = b.right; map = map_trans b.map a.map; count = b.count ∙ a.count }

pub gives_keeps : {L M Q : Leaf} {k : ℕ} {P : ℕ → Type 0} → Gives L M k P → Keeps M Q → Gives L Q k P
gives_keeps a b = record { right = b.right; map = map_trans b.map a.map }

pub gives_slots : {L M Q : Leaf} {k : ℕ} {P : ℕ → Type 0} → Gives L M k P → Slots M Q → Gives L Q k P
gives_slots g s = record {
  right = slots_right s g.right;
  map = map_trans (record { to = slots_in (slots_sym s); back = slots_in s }) g.map;
}

-- ---- one entry

module _ (L : Leaf) (r : Right L) where
  pub erase_gives : (s : ℕ) → Taken L s → Gives L (erase L s) (L.key s) (λ v. ⊥)
  erase_gives s h = record {
    right = erase_right L s r;
    map = record {
      to = λ k v i. inl (erase_in L s r h k v i);
      back = λ k v u. elim u [ inl o ↦ in_erase L s k v o.1 o.0 | inr n ↦ absurd n.1 ];
    };
  }

  pub insert_gives : (s k v : ℕ) → s < L.size → L.occ s ≡ false → Absent L k
      → Gives L (insert L s k v) k (λ u. u ≡ v)
  insert_gives s k v h vacant absent = record {
    right = insert_right L s k v r h absent;
    map = record {
      to = λ j u i. elim (insert_in L s k v j u i) [ inl o ↦ inl (o, λ e. absent u (rw e at o)) | inr n ↦ inr n ];
      back = λ j u m. elim m [
        | inl o ↦ in_insert L s k v vacant j u o.0
        | inr n ↦ rw (n.0, n.1) (in_new L s k v)
      ];
    };
  }

-- ---- an entry put where it was, with another value, or into another slot

abbrev pub move : Leaf → ℕ → ℕ → Leaf
move L s t = insert (erase L s) t (L.key s) (L.val s)

module _ (L : Leaf) (r : Right L) (s : ℕ) (h : Taken L s) where
  again : (t v : ℕ) → t < L.size → (erase L s).occ t ≡ false
      → Gives L (insert (erase L s) t (L.key s) v) (L.key s) (λ u. u ≡ v)
  again t v l e =
      let k : ℕ = L.key s in
      let a : Gives L (erase L s) (L.key s) (λ v. ⊥) = erase_gives L r s h in
      let b : Gives (erase L s) (insert (erase L s) t (L.key s) v) (L.key s) (λ u. u ≡ v) =
      insert_gives (erase L s) a.right t k v l e (λ u i. (erase_in L s r h k u i).1 refl) in
      record {
        right = b.right;
        map = map_trans b.map
            (map_trans (altered_map (In (erase L s)) (Altered (In L) k (λ v. ⊥)) k (λ u. u ≡ v) a.map)
            (altered_twice (In L) k (λ v. ⊥) (λ u. u ≡ v)));
      }

  pub set_gives : (v : ℕ) → Gives L (insert (erase L s) s (L.key s) v) (L.key s) (λ u. u ≡ v)
  set_gives v = again s v (r.inside s h) (upd_same L.occ s false)

  pub move_keeps : (t : ℕ) → t < L.size → L.occ t ≡ false → Keeps L (move L s t)
  move_keeps t l vacant =
      let g : Gives L (move L s t) (L.key s) (λ u. u ≡ L.val s) = again t (L.val s) l free in
      record {
        right = g.right;
        map = map_trans g.map (record {
          to = λ j u m. elim m [ inl o ↦ o.0 | inr n ↦ rw (n.0, n.1) (own L s h) ];
          back = λ j u i. elim (ℕ_discrete j (L.key s)) [
            | yes e ↦ inr (e, in_unique L r (L.key s) u (L.val s) (rw e at i) (own L s h))
            | no ne ↦ inl (i, ne)
          ];
        });
        count = omega (arith, count_erase L r s h, count_insert (erase L s) t (L.key s) (L.val s) l free);
      }
    where
      free : (erase L s).occ t ≡ false
      free = upd_other L.occ s false t (λ e. taken_vacant L s t h vacant (sym e)) ∙ vacant

-- ---- entries moved out of line 0, as a plain put does it

abbrev pub moves : Leaf → List Copy → Leaf
moves L [] = L
moves L (c ∷ cs) = moves (move L c.from c.to) cs

-- the sources rise from i to 2, the targets rise from t on below e, where occ has vacant slots
abbrev pub Fits : (ℕ → Bool) → ℕ → ℕ → ℕ → List Copy → Type 0
Fits occ i t e [] = Unit {0}
Fits occ i t e (c ∷ cs) =
    (i ≤ c.from) × (c.from < 3) × (t ≤ c.to) × (c.to < e) × (occ c.to ≡ false)
    × Fits occ (suc c.from) (suc c.to) e cs

fits_lower : (occ : ℕ → Bool) (i t e : ℕ) (cs : List Copy) → Fits occ i (suc t) e cs → Fits occ i t e cs
fits_lower occ i t e [] f = tt
fits_lower occ i t e (c ∷ cs) f = (f.0, f.1, omega (arith, f.2), f.3, f.4, f.5)

pub copies_fit : (occ : ℕ → Bool) (n i t e : ℕ) → i + n ≤ 3 → t + n ≤ e → Fits occ i t e (copies occ i t n)
unfolding copies
copies_fit occ zero i t e a b = tt
copies_fit occ (suc n) i t e a b =
    by_test
    (λ x. Fits occ i t e (cond x (copies occ i (suc t) n) (record { from = i; to = t } ∷ copies occ (suc i) (suc t) n)))
    (occ t)
    (λ p. fits_lower occ i t e (copies occ i (suc t) n) (copies_fit occ n i (suc t) e (omega arith) (omega arith)))
    (λ p.
    let more : Fits occ (suc i) (suc t) e (copies occ (suc i) (suc t) n) =
    copies_fit occ n (suc i) (suc t) e (omega arith) (omega arith) in
    (omega arith, omega arith, omega arith, omega arith, p, more))

pub moves_keeps : (occ : ℕ → Bool) (cs : List Copy) (L : Leaf) (i t e : ℕ) → Right L
    → ((j : ℕ) → i ≤ j → j < 3 → Taken L j) → ((q : ℕ) → t ≤ q → q < e → L.occ q ≡ occ q) → 3 ≤ t → e ≤ L.size
    → Fits occ i t e cs → Keeps L (moves L cs)
moves_keeps occ [] L i t e r h o a b f = keeps_refl L r
moves_keeps occ (c ∷ cs) L i t e r h o a b f =
    keeps_trans m
    (moves_keeps occ cs (move L c.from c.to) (suc c.from) (suc c.to) e m.right
    (λ j l k. taken_insert (erase L c.from) c.to (L.key c.from) (L.val c.from) j (omega (arith, f.2))
    (taken_erase L c.from j (omega arith) (h j (omega (arith, f.0)) k)))
    (λ q l k. upd_other (upd L.occ c.from false) c.to true q (omega arith)
    ∙ upd_other L.occ c.from false q (omega (arith, f.1, f.2)) ∙ o q (omega (arith, f.2)) k)
    (omega (arith, f.2))
    b
    f.5)
  where
    m : Keeps L (move L c.from c.to)
    m =
        move_keeps L r c.from (h c.from f.0 f.1) c.to (omega (arith, f.3)) (o c.to f.2 f.3 ∙ f.4)

-- the lock and the active sibling stay
pub moves_rest : (cs : List Copy) (L : Leaf) → ((moves L cs).lock ≡ L.lock) × ((moves L cs).next ≡ L.next)
moves_rest [] L = (refl, refl)
moves_rest (c ∷ cs) L = moves_rest cs (move L c.from c.to)
