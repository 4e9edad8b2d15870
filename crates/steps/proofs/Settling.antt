-- What is settled, as a proof handles it: with the write-back and the fence that settle a store. And: the settled stores
-- of a unit are its first ones, so one number per unit says which they are, and "between settled and made" is what a
-- cut permits.
use Rattle.std.specs.Prelude.{ℕ, suc, ◌+◌, ◌<◌, ◌≤◌, Bool, true, ◌≡◌, refl, eqb}
use Rattle.std.proofs.Common.{arith, sym, ap, ◌∙◌}
use Rattle.std.proofs.Math.Decide.{dec_le}
use Rattle.std.proofs.lemmas.Bool.{false≢true}
use borrow.Author.Tests.{eqb-true, eq-eqb}
use Rattle.words.specs.Bools.{both, both_true, by_test}
use Rattle.words.specs.Below.{any_below, count_below}
use Rattle.words.specs.BelowLaws.{any_make, any_at, count_le, count_nth, count_cong, count_sub}
use Rattle.steps.specs.Model.{Step, store, write_back, fence, Steps, line, stores_to, writes_back, is_fence, made}
use Rattle.steps.specs.Model.{Rule, is_settled, settles_in, settled, Permitted}
use Rattle.steps.specs.Settling.{EachStore, Settled}

-- the store at i, to the place p, is one of those that arrive
abbrev pub Arrives : (ℕ → ℕ) → Steps → (ℕ → ℕ) → ℕ → ℕ → Type 0
Arrives unit s a i p = made unit s i (unit p) < a (unit p)

-- What a rule has to meet: it serves the stores before one that it serves, it takes a write-back and a fence that follow
-- the store in this order, and it does not depend on where the steps begin.
pub record Lawful (rule : Rule) : Type 0 where
  pub earlier : (h i j k : ℕ) → h ≤ i → rule i j k ≡ true → rule h j k ≡ true
  pub follows : (i j k : ℕ) → i < j → j < k → rule i j k ≡ true
  pub shifts : (d i j k : ℕ) → rule i j k ≡ true → rule (d + i) (d + j) (d + k) ≡ true

-- an ordering unit is a line or a part of one
abbrev pub InLines : (ℕ → ℕ) → Type 0
InLines unit = (p q : ℕ) → unit q ≡ unit p → line q ≡ line p

-- ---- the tests tell the steps

pub is_back : (l : ℕ) (x : Step) → writes_back l x ≡ true → x ≡ write_back l
is_back l (store p v) e = absurd (false≢true e)
is_back l (write_back k) e = ap write_back (eqb-true k l e)
is_back l fence e = absurd (false≢true e)

is_fence_lem : (x : Step) → is_fence x ≡ true → x ≡ fence
is_fence_lem (store p v) e = absurd (false≢true e)
is_fence_lem (write_back k) e = absurd (false≢true e)
is_fence_lem fence e = refl

pub is_store : (unit : ℕ → ℕ) (u : ℕ) (x : Step) → stores_to unit u x ≡ true
    → (p : ℕ) × (v : ℕ) × (x ≡ store p v) × (unit p ≡ u)
is_store unit u (store p v) e = (p, v, refl, eqb-true (unit p) u e)
is_store unit u (write_back k) e = absurd (false≢true e)
is_store unit u fence e = absurd (false≢true e)

pub made_store : (unit : ℕ → ℕ) (s : Steps) (i p v : ℕ) → s i ≡ store p v
    → made unit s (suc i) (unit p) ≡ suc (made unit s i (unit p))
unfolding count_below
made_store unit s i p v e = rw (e, eq-eqb (unit p) (unit p) refl) (omega arith)

pub made_le : (unit : ℕ → ℕ) (s : Steps) (i j u : ℕ) → i ≤ j → made unit s i u ≤ made unit s j u
made_le unit s i j u = count_le (λ j. stores_to unit u (s j)) i j

-- ---- the test of settling and its witnesses

module _ (rule : Rule) (s : Steps) (n i l : ℕ) where
  pub settled_test : Settled rule s n i l → is_settled rule s n i l ≡ true
  unfolding is_settled
  settled_test r =
      any_make (λ k. both (is_fence (s k)) (any_below (λ j. both (writes_back l (s j)) (rule i j k)) k)) n r.flush r.taken
      (rw r.fenced
      (any_make (λ j. both (writes_back l (s j)) (rule i j r.flush)) r.flush r.back r.behind
      (rw (r.written, eq-eqb l l refl) r.ordered)))

  pub test_settled : is_settled rule s n i l ≡ true → Settled rule s n i l
  unfolding is_settled
  test_settled e =
      let (k, h, f) = any_at (λ k. both (is_fence (s k)) (any_below (λ j. both (writes_back l (s j)) (rule i j k)) k)) n e in
      let g = both_true (is_fence (s k)) (any_below (λ j. both (writes_back l (s j)) (rule i j k)) k) f in
      let (j, b, w) = any_at (λ j. both (writes_back l (s j)) (rule i j k)) k g.1 in
      let y = both_true (writes_back l (s j)) (rule i j k) w in
      record {
        back = j;
        flush = k;
        written = is_back l (s j) y.0;
        fenced = is_fence_lem (s k) g.0;
        ordered = y.1;
        behind = b;
        taken = h;
      }

-- what is settled stays settled
pub settled_mono : {rule : Rule} {s : Steps} {n : ℕ} (m : ℕ) {i l : ℕ} → n ≤ m → Settled rule s n i l → Settled rule s m i l
settled_mono m h r = record {
  back = r.back;
  flush = r.flush;
  written = r.written;
  fenced = r.fenced;
  ordered = r.ordered;
  behind = r.behind;
  taken = omega arith;
}

-- ---- a unit's settled stores are its first ones

module _ (unit : ℕ → ℕ) (rule : Rule) (s : Steps) (n : ℕ) where
  -- a settled store is a store
  pub settled_stores : (u i : ℕ) (x : Step) → settles_in unit rule s n u i x ≡ true → stores_to unit u x ≡ true
  settled_stores u i (store p v) e = (both_true (eqb (unit p) u) (is_settled rule s n i (line p)) e).0
  settled_stores u i (write_back k) e = e
  settled_stores u i fence e = e

  pub settled_made : (u : ℕ) → settled unit rule s n u ≤ made unit s n u
  settled_made u =
      count_sub (λ i. settles_in unit rule s n u i (s i)) (λ i. stores_to unit u (s i)) n (λ i. settled_stores u i (s i))

  -- a number that every settled store of u is below is not below the settled ones
  settled_below : (u c : ℕ)
      → EachStore s n (λ i p v. unit p ≡ u → Settled rule s n i (line p) → made unit s i u < c)
      → settled unit rule s n u ≤ c
  settled_below u c h = go (dec_le (settled unit rule s n u) c)
    where
      f : ℕ → Bool
      f i = settles_in unit rule s n u i (s i)

      here : (i : ℕ) (x : Step) → s i ≡ x → settles_in unit rule s n u i x ≡ true → i < n → made unit s i u < c
      here i (store p v) e t l =
          let y = both_true (eqb (unit p) u) (is_settled rule s n i (line p)) t in
          h i p v l e (eqb-true (unit p) u y.0) (test_settled rule s n i (line p) y.1)
      here i (write_back k) e t l = absurd (false≢true t)
      here i fence e t l = absurd (false≢true t)

      go : Dec (settled unit rule s n u ≤ c) → settled unit rule s n u ≤ c
      go (yes l) = l
      go (no l) =
          let (i, b, t, o) = count_nth f n c (omega arith) in
          let k = count_sub f (λ i. stores_to unit u (s i)) i (λ i. settled_stores u i (s i)) in
          absurd (omega (arith, here i (s i) refl t b))

  -- so where no more than the made ones arrive, and every settled store does, the arrivals are permitted ..
  pub arrives_permitted : (a : ℕ → ℕ) → ((u : ℕ) → a u ≤ made unit s n u)
      → EachStore s n (λ i p v. Settled rule s n i (line p) → Arrives unit s a i p) → Permitted unit rule s n a
  arrives_permitted a most least = record {
    least = λ u. settled_below u (a u) (λ i p v l e q r.
        let x : made unit s i (unit p) ≡ made unit s i u = ap (made unit s i) q in omega (arith, least i p v l e r, ap a q));
    most = λ u. omega (arith, most u);
  }

  module _ (L : Lawful rule) (W : InLines unit) where
    -- THE FIRST ONES: a store of the same unit before a settled one is settled
    pub settled_first : (h i p q v w : ℕ) → h ≤ i → s h ≡ store q w → s i ≡ store p v → unit q ≡ unit p
        → Settled rule s n i (line p) → Settled rule s n h (line q)
    settled_first h i p q v w b d e u r = record {
      back = r.back;
      flush = r.flush;
      written = r.written ∙ ap write_back (sym (W p q u));
      fenced = r.fenced;
      ordered = L.earlier h i r.back r.flush b r.ordered;
      behind = r.behind;
      taken = r.taken;
    }

    -- so a settled store has fewer stores of its unit before it than are settled
    pub settled_counts : EachStore s n (λ i p v. Settled rule s n i (line p) → Arrives unit s (settled unit rule s n) i p)
    settled_counts i p v l e r =
        let c : count_below g (suc i) ≡ count_below f (suc i) = count_cong g f (suc i) (λ h b. same h (s h) refl (omega arith)) in
        omega (arith, made_store unit s i p v e, count_le f (suc i) n l)
      where
        f : ℕ → Bool
        f j = settles_in unit rule s n (unit p) j (s j)

        g : ℕ → Bool
        g j = stores_to unit (unit p) (s j)

        same : (h : ℕ) (x : Step) → s h ≡ x → h ≤ i → stores_to unit (unit p) x ≡ settles_in unit rule s n (unit p) h x
        same h (store q w) d b =
            by_test (λ t. t ≡ both t (is_settled rule s n h (line q))) (eqb (unit q) (unit p))
            (λ y.
            sym (settled_test rule s n h (line q) (settled_first h i p q v w b d e (eqb-true (unit q) (unit p) y) r)))
            (λ y. refl)
        same h (write_back k) d b = refl
        same h fence d b = refl

    -- .. and where they are permitted every settled store arrives
    pub permitted_arrives : (a : ℕ → ℕ) → Permitted unit rule s n a
        → EachStore s n (λ i p v. Settled rule s n i (line p) → Arrives unit s a i p)
    permitted_arrives a ok i p v l e r = omega (arith, settled_counts i p v l e r, ok.least (unit p))
