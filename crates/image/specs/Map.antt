-- A map as the relation of its keys and values, and as the list of its entries in rising order of their keys.
use Rattle.std.specs.Prelude.{◌≡◌, Bool, cond, not, List, [], ◌∷◌, ◌++◌, ◌⊎◌, ◌≢◌, ℕ, suc, ◌≤◌, ltb, leb, eqb, Option, Some, None}

-- ---- as a relation

abbrev pub Map : Type 1
Map = ℕ → ℕ → Type 0

pub record SameMap (G H : Map) : Type 0 where
  pub to : (k v : ℕ) → G k v → H k v
  pub back : (k v : ℕ) → H k v → G k v

-- the map H but at the key k, where the values are those of P: `λ u. u ≡ v` for a put or a set of v, `λ u. ⊥` for a del
abbrev pub Altered : Map → ℕ → (ℕ → Type 0) → Map
Altered H k P j u = (H j u × (j ≢ k)) ⊎ ((j ≡ k) × P u)

-- ---- as a list

pub record Entry : Type 0 where
  pub key : ℕ
  pub val : ℕ

abbrev pub entry : ℕ → ℕ → Entry
entry k v = record { key = k; val = v }

abbrev pub Member : List Entry → Map
Member [] k v = ⊥
Member (e ∷ l) k v = ((k ≡ e.key) × (v ≡ e.val)) ⊎ Member l k v

-- the keys rise, from lo on
abbrev pub Sorted : ℕ → List Entry → Type 0
Sorted lo [] = Unit {0}
Sorted lo (e ∷ l) = (lo ≤ e.key) × Sorted (suc e.key) l

-- l has the entries of the map H, rising
pub record Lists (H : Map) (l : List Entry) : Type 0 where
  pub sorted : Sorted 0 l
  pub members : SameMap (Member l) H

-- ---- the operations of a plain map on such a list

-- the entries whose key passes a test
unfoldable pub only : (ℕ → Bool) → List Entry → List Entry
only p [] = []
only p (e ∷ l) = cond (p e.key) (e ∷ only p l) (only p l)

-- k has the value v, whether it was there or not: put and set
unfoldable pub put_in : ℕ → ℕ → List Entry → List Entry
put_in k v l = only (λ j. ltb j k) l ++ (entry k v ∷ only (λ j. ltb k j) l)

-- k is gone: del
unfoldable pub without : ℕ → List Entry → List Entry
without k l = only (λ j. not (eqb j k)) l

-- the value of k: find
unfoldable pub lookup : ℕ → List Entry → Option ℕ
lookup k [] = None
lookup k (e ∷ l) = cond (eqb e.key k) (Some e.val) (lookup k l)

-- "entries with that key or above": listing
unfoldable pub starting_at : ℕ → List Entry → List Entry
starting_at k l = only (λ j. leb k j) l
