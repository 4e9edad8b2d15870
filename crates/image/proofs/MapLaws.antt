-- Equal maps, and maps altered at one key.
use Rattle.std.proofs.Common.{inl, inr}
use Rattle.std.specs.Prelude.{ℕ}
use Rattle.std.proofs.Math.Decide.{ℕ_discrete}
use Rattle.image.specs.Map.{Map, SameMap, Altered}

pub map_refl : (H : Map) → SameMap H H
map_refl H = record { to = λ k v h. h; back = λ k v h. h }

pub map_sym : {G H : Map} → SameMap G H → SameMap H G
map_sym s = record { to = s.back; back = s.to }

pub map_trans : {G H K : Map} → SameMap G H → SameMap H K → SameMap G K
map_trans s t = record { to = λ k v h. t.to k v (s.to k v h); back = λ k v h. s.back k v (t.back k v h) }

pub altered_map : (G H : Map) (k : ℕ) (P : ℕ → Type 0) → SameMap G H → SameMap (Altered G k P) (Altered H k P)
altered_map G H k P s = record {
  to = λ j u h. elim h [ inl o ↦ inl (s.to j u o.0, o.1) | inr n ↦ inr n ];
  back = λ j u h. elim h [ inl o ↦ inl (s.back j u o.0, o.1) | inr n ↦ inr n ];
}

-- at k what it has there
pub altered_self : (H : Map) (k : ℕ) → SameMap H (Altered H k (H k))
altered_self H k = record {
  to = λ j u h. elim (ℕ_discrete j k) [ yes e ↦ inr (e, rw e at h) | no ne ↦ inl (h, ne) ];
  back = λ j u h. elim h [ inl o ↦ o.0 | inr n ↦ rw n.0 n.1 ];
}

-- at k twice: the second counts
pub altered_twice : (H : Map) (k : ℕ) (P Q : ℕ → Type 0) → SameMap (Altered (Altered H k P) k Q) (Altered H k Q)
altered_twice H k P Q = record {
  to = λ j u h. elim h [
    | inl o ↦ elim o.0 [ inl p ↦ inl p | inr n ↦ absurd (o.1 n.0) ]
    | inr n ↦ inr n
  ];
  back = λ j u h. elim h [ inl o ↦ inl (inl o, o.1) | inr n ↦ inr n ];
}
