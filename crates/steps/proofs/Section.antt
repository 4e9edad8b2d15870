-- THE SECTION THEOREM. A section is a run of steps whose last store decides: what a cut of it leaves is as before, in all
-- that is used, or is what the whole section leaves. (Source 001, Definition 2.1 and Theorem 2.1.)
use Rattle.std.specs.Prelude.{ℕ, zero, suc, ◌<◌, ◌≤◌, Bool, true, cond, ◌≡◌, refl, ◌⊎◌, ltb}
use Rattle.std.proofs.Common.{arith, sym, ap, ◌∙◌, inl, inr, ltb-true, lt-ltb}
use Rattle.std.proofs.Math.Decide.{dec_lt, ℕ_discrete}
use Rattle.words.specs.Bools.{by_test}
use Rattle.steps.proofs.Indices.{grow}
use Rattle.steps.specs.Model.{Step, store, write_back, fence, Steps, made, land, arrives, run, cut}
use Rattle.steps.specs.Model.{Rule, Permitted}
use Rattle.steps.specs.Settling.{EachStore}
use Rattle.steps.proofs.Settling.{Arrives, Lawful, InLines}
use Rattle.steps.proofs.Settling.{settled_mono, made_le, made_store, permitted_arrives}
use Rattle.steps.specs.Section.{Section}

-- a set of memories that the stores of U do not leave
abbrev pub Closed : {M : Type 0} → (M → ℕ → ℕ → M) → (ℕ → ℕ → Type 0) → (M → Type 0) → Type 0
Closed {M} write U R = (x : M) (p v : ℕ) → U p v → R x → R (write x p v)

-- every permitted cut after n of the first N steps leaves a memory of Q n
abbrev pub Cuts : {M : Type 0} → (M → ℕ → ℕ → M) → (ℕ → ℕ) → Rule → Steps → M → ℕ → (ℕ → M → Type 0) → Type 0
Cuts write unit rule s m N Q = (n : ℕ) (a : ℕ → ℕ) → n ≤ N → Permitted unit rule s n a → Q n (cut write unit s a m n)

-- ---- what a step leaves

module _ (unit : ℕ → ℕ) {M : Type 0} (write : M → ℕ → ℕ → M) where
  -- a step arrives if it is no store, or a store in time
  in_time : (a c : ℕ → ℕ) (x : Step) → ((p v : ℕ) → x ≡ store p v → c (unit p) < a (unit p)) → arrives unit a c x ≡ true
  in_time a c (store p v) h = lt-ltb (c (unit p)) (a (unit p)) (h p v refl)
  in_time a c (write_back l) h = refl
  in_time a c fence h = refl

  -- a step that is no store changes nothing
  land_still : (b : Bool) (m : M) (x : Step) → ((p v : ℕ) → x ≡ store p v → ⊥) → land write b x m ≡ m
  land_still b m (store p v) h = absurd (h p v refl)
  land_still b m (write_back l) h = refl
  land_still b m fence h = refl

  run_still : (s : Steps) (m : M) (n N : ℕ) → n ≤ N → EachStore s N (λ i p v. i < n)
      → run write s m N ≡ run write s m n
  run_still s m n N h f =
      grow (λ i. run write s m i ≡ run write s m n) n N h refl
      (λ i l k ih. land_still true (run write s m i) (s i) (λ p v e. omega (arith, f i p v k e)) ∙ ih)

  -- where every store arrives, a cut is a run
  pub cut_run : (s : Steps) (a : ℕ → ℕ) (m : M) (n : ℕ) → EachStore s n (λ i p v. Arrives unit s a i p)
      → cut write unit s a m n ≡ run write s m n
  cut_run s a m zero h = refl
  cut_run s a m (suc n) h =
      rw (
        in_time a (made unit s n) (s n) (λ p v. h n p v (omega arith)),
        cut_run s a m n (λ i p v l. h i p v (omega arith)),
      )

  -- and so it is where all made stores arrived
  pub cut_made : (s : Steps) (m : M) (n : ℕ) → cut write unit s (made unit s n) m n ≡ run write s m n
  cut_made s m n =
      cut_run s (made unit s n) m n
      (λ i p v l e. omega (arith, made_store unit s i p v e, made_le unit s (suc i) n (unit p) l))

  -- where every store that arrives is one of U, a cut stays in a set that U does not leave
  module _ (U : ℕ → ℕ → Type 0) (R : M → Type 0) (up : Closed write U R) where
    land_keeps : (a c : ℕ → ℕ) (m : M) (x : Step) → ((p v : ℕ) → x ≡ store p v → c (unit p) < a (unit p) → U p v)
        → R m → R (land write (arrives unit a c x) x m)
    land_keeps a c m (store p v) h r =
        by_test (λ b. R (cond b (write m p v) m)) (ltb (c (unit p)) (a (unit p)))
        (λ e. up m p v (h p v refl (ltb-true _ _ e)) r)
        (λ e. r)
    land_keeps a c m (write_back l) h r = r
    land_keeps a c m fence h r = r

    pub cut_keeps : (s : Steps) (a : ℕ → ℕ) (m : M) (n : ℕ) → EachStore s n (λ i p v. Arrives unit s a i p → U p v)
        → R m → R (cut write unit s a m n)
    cut_keeps s a m zero h r = r
    cut_keeps s a m (suc n) h r =
        land_keeps a (made unit s n) (cut write unit s a m n) (s n) (λ p v. h n p v (omega arith))
        (cut_keeps s a m n (λ i p v l. h i p v (omega arith)) r)

-- ---- the theorem

module _ (unit : ℕ → ℕ) (W : InLines unit) (rule : Rule) (L : Lawful rule) {M : Type 0} (write : M → ℕ → ℕ → M)
    (U : ℕ → ℕ → Type 0) (R : M → Type 0) (up : Closed write U R) where
  pub section_cut : (s : Steps) (N : ℕ) → Section unit rule U s N → (m : M) → R m
      → Cuts write unit rule s m N (λ n x. R x ⊎ (x ≡ run write s m N))
  section_cut s N S m r n a le ok = early (dec_lt S.last n)
    where
      here : ℕ
      here = unit S.place

      -- a store is before the switch, or is the switch
      which : EachStore s n (λ i p v. (i < S.last) ⊎ ((i ≡ S.last) × (p ≡ S.place)))
      which i p v l e =
          elim (dec_lt i S.last) [
            | yes h ↦ inl h
            | no h ↦ let q : i ≡ S.last = omega (arith, S.quiet i p v (omega arith) e) in inr (q, cc (S.switch, ap s q))
          ]

      -- where the switch does not arrive, only stores before it do
      missed : a here ≤ made unit s S.last here → EachStore s n (λ i p v. Arrives unit s a i p → U p v)
      missed h i p v l e t =
          elim (which i p v l e) [
            | inl k ↦ S.unused i p v k e
            | inr q ↦ let x : made unit s i (unit p) ≡ made unit s S.last here = cc in
                let y : a (unit p) ≡ a here = cc in absurd (omega arith)
          ]

      -- where it arrives, all do: those of its unit come first, and the others are settled
      arrived : S.last < n → made unit s S.last here < a here → EachStore s n (λ i p v. Arrives unit s a i p)
      arrived k h i p v l e =
          elim (which i p v l e) [
            | inl b ↦ elim (ℕ_discrete (unit p) here) [
              | yes q ↦ let x : made unit s i (unit p) ≡ made unit s i here = ap (made unit s i) q in
                  omega (arith, ap a q, made_le unit s i S.last here (omega arith))
              | no q ↦ permitted_arrives unit rule s n L W a ok i p v l e
                  (settled_mono n (omega arith) (S.before i p v b e q))
            ]
            | inr q ↦ let x : made unit s i (unit p) ≡ made unit s S.last here = cc in
                let y : a (unit p) ≡ a here = cc in omega arith
          ]

      late : S.last < n → Dec (made unit s S.last here < a here)
          → R (cut write unit s a m n) ⊎ (cut write unit s a m n ≡ run write s m N)
      late l (yes h) =
          inr
          (cut_run unit write s a m n (arrived l h)
          ∙ sym (run_still unit write s m n N le (λ i p v b e. omega (arith, S.quiet i p v b e))))
      late l (no h) = inl (cut_keeps unit write U R up s a m n (missed (omega arith)) r)

      early : Dec (S.last < n) → R (cut write unit s a m n) ⊎ (cut write unit s a m n ≡ run write s m N)
      early (yes h) = late h (dec_lt (made unit s S.last here) (a here))
      early (no h) = inl (cut_keeps unit write U R up s a m n (λ i p v l e t. S.unused i p v (omega arith) e) r)
