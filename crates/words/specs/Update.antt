-- A function with its answer at one place replaced: what a store is where a memory is read by index.
use Rattle.std.specs.Prelude.{◌≡◌, refl, cond, ◌≢◌, ℕ, eqb}
use Rattle.std.proofs.Common.{eq-eqb, ne_eqb}

abbrev pub upd : {A : Type 0} → (ℕ → A) → ℕ → A → ℕ → A
upd f i x j = cond (eqb j i) x (f j)

pub upd_same : {A : Type 0} (f : ℕ → A) (i : ℕ) (x : A) → upd f i x i ≡ x
upd_same f i x = rw (eq-eqb i i refl)

pub upd_other : {A : Type 0} (f : ℕ → A) (i : ℕ) (x : A) (j : ℕ) → j ≢ i → upd f i x j ≡ f j
upd_other f i x j ne = rw (ne_eqb j i ne)
