-- The two edits of a leaf: a slot made vacant, and an entry put into a vacant slot. A set is both in one slot, a move
-- both in two.
use Rattle.std.specs.Prelude.{◌≡◌, refl, true, false, ◌⊎◌, ◌≢◌, ℕ, ◌<◌}
use Rattle.std.proofs.Common.{sym, ap, ◌∙◌, inl, inr}
use Rattle.std.proofs.Math.Decide.{ℕ_discrete}
use Rattle.words.specs.Bools.{differ}
use Rattle.words.specs.Update.{upd, upd_same, upd_other}
use Rattle.header.specs.Header.{fingerprint_of}
use Rattle.leaf.specs.Leaf.{Leaf, Taken, In, Right}
use Rattle.image.proofs.Same.{taken_vacant}

abbrev pub erase : Leaf → ℕ → Leaf
erase L s = record {
  size = L.size;
  lock = L.lock;
  next = L.next;
  occ = upd L.occ s false;
  fp = L.fp;
  key = L.key;
  val = L.val;
}

abbrev pub insert : Leaf → ℕ → ℕ → ℕ → Leaf
insert L s k v = record {
  size = L.size;
  lock = L.lock;
  next = L.next;
  occ = upd L.occ s true;
  fp = upd L.fp s (fingerprint_of k);
  key = upd L.key s k;
  val = upd L.val s v;
}

-- the key k is in no slot
abbrev pub Absent : Leaf → ℕ → Type 0
Absent L k = (u : ℕ) → In L k u → ⊥

-- ---- a slot made vacant

module _ (L : Leaf) (s : ℕ) where
  -- another slot is occupied still
  pub taken_erase : (t : ℕ) → t ≢ s → Taken L t → Taken (erase L s) t
  taken_erase t ne h = upd_other L.occ s false t ne ∙ h

  pub erase_taken : (t : ℕ) → Taken (erase L s) t → Taken L t × (t ≢ s)
  erase_taken t h =
      elim (ℕ_discrete t s) [
        | yes e ↦ differ (sym h ∙ rw e (upd_same L.occ s false))
        | no ne ↦ (sym (upd_other L.occ s false t ne) ∙ h, ne)
      ]

  pub erase_right : Right L → Right (erase L s)
  erase_right r = record {
    inside = λ t h. r.inside t (erase_taken t h).0;
    prints = λ t h. r.prints t (erase_taken t h).0;
    differ = λ t u a b e. r.differ t u (erase_taken t a).0 (erase_taken u b).0 e;
  }

  pub in_erase : (k v : ℕ) → k ≢ L.key s → In L k v → In (erase L s) k v
  in_erase k v ne i = record {
    at = i.at;
    taken = taken_erase i.at (λ e. ne (sym i.key_is ∙ ap L.key e)) i.taken;
    key_is = i.key_is;
    val_is = i.val_is;
  }

  pub erase_in : Right L → Taken L s → (k v : ℕ) → In (erase L s) k v → In L k v × (k ≢ L.key s)
  erase_in r h k v i =
      let t : Taken L i.at × (i.at ≢ s) = erase_taken i.at i.taken in (
        record { at = i.at; taken = t.0; key_is = i.key_is; val_is = i.val_is },
        λ e. t.1 (r.differ i.at s t.0 h (i.key_is ∙ e)),
      )

-- ---- an entry put into a vacant slot

module _ (L : Leaf) (s k v : ℕ) where
  pub insert_new : Taken (insert L s k v) s
  insert_new = upd_same L.occ s true

  pub taken_insert : (t : ℕ) → t ≢ s → Taken L t → Taken (insert L s k v) t
  taken_insert t ne h = upd_other L.occ s true t ne ∙ h

  pub insert_taken : (t : ℕ) → Taken (insert L s k v) t → (t ≡ s) ⊎ (Taken L t × (t ≢ s))
  insert_taken t h =
      elim (ℕ_discrete t s) [
        | yes e ↦ inl e
        | no ne ↦ inr (sym (upd_other L.occ s true t ne) ∙ h, ne)
      ]

  key_new : (t : ℕ) → t ≡ s → (insert L s k v).key t ≡ k
  key_new t e = rw e (upd_same L.key s k)

  pub in_new : In (insert L s k v) k v
  in_new = record { at = s; taken = insert_new; key_is = upd_same L.key s k; val_is = upd_same L.val s v }

  pub in_insert : L.occ s ≡ false → (j u : ℕ) → In L j u → In (insert L s k v) j u
  in_insert vacant j u i =
      let ne : i.at ≢ s = taken_vacant L i.at s i.taken vacant in
      record {
        at = i.at;
        taken = taken_insert i.at ne i.taken;
        key_is = upd_other L.key s k i.at ne ∙ i.key_is;
        val_is = upd_other L.val s v i.at ne ∙ i.val_is;
      }

  pub insert_in : (j u : ℕ) → In (insert L s k v) j u → In L j u ⊎ ((j ≡ k) × (u ≡ v))
  insert_in j u i = go (insert_taken i.at i.taken)
    where
      go : (i.at ≡ s) ⊎ (Taken L i.at × (i.at ≢ s)) → In L j u ⊎ ((j ≡ k) × (u ≡ v))
      go (inl e) = inr (sym i.key_is ∙ key_new i.at e, sym i.val_is ∙ rw e (upd_same L.val s v))
      go (inr h) = inl (record {
        at = i.at;
        taken = h.0;
        key_is = sym (upd_other L.key s k i.at h.1) ∙ i.key_is;
        val_is = sym (upd_other L.val s v i.at h.1) ∙ i.val_is;
      })

  -- the key and the fingerprint of an occupied slot, the new one or another
  abbrev New : ℕ → Type 0
  New t = (t ≡ s) ⊎ (Taken L t × (t ≢ s))

  pub insert_right : Right L → s < L.size → Absent L k → Right (insert L s k v)
  insert_right r slot absent = record {
    inside = λ t h. elim (insert_taken t h) [ inl e ↦ rw e slot | inr o ↦ r.inside t o.0 ];
    prints = λ t h. print t (insert_taken t h);
    differ = λ t u a b e. apart t u (insert_taken t a) (insert_taken u b) e;
  }
    where
      M : Leaf
      M = insert L s k v

      print : (t : ℕ) → New t → M.fp t ≡ fingerprint_of (M.key t)
      print t (inl e) = rw (e, upd_same L.fp s (fingerprint_of k), upd_same L.key s k)
      print t (inr h) =
          rw (upd_other L.fp s (fingerprint_of k) t h.1, upd_other L.key s k t h.1) (r.prints t h.0)

      kept : (t : ℕ) → t ≢ s → M.key t ≡ L.key t
      kept t ne = upd_other L.key s k t ne

      old : (t : ℕ) → Taken L t → L.key t ≡ k → ⊥
      old t h e = absent (L.val t) (record { at = t; taken = h; key_is = e; val_is = refl })

      apart : (t u : ℕ) → New t → New u → M.key t ≡ M.key u → t ≡ u
      apart t u (inl e) (inl f) g = e ∙ sym f
      apart t u (inl e) (inr f) g = absurd (old u f.0 (sym (kept u f.1) ∙ sym g ∙ key_new t e))
      apart t u (inr e) (inl f) g = absurd (old t e.0 (sym (kept t e.1) ∙ g ∙ key_new u f))
      apart t u (inr e) (inr f) g = r.differ t u e.0 f.0 (sym (kept t e.1) ∙ g ∙ kept u f.1)
