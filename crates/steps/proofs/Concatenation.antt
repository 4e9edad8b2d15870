-- THE CONCATENATION. Where the first part's stores are settled, a cut behind it is a cut of the rest, from where the part
-- was run: so a list of two sections is cut in one of them. And: only the steps that were taken matter.
use Rattle.std.specs.Prelude.{ℕ, zero, suc, ◌+◌, ◌-◌, ◌<◌, ◌≤◌, ◌≡◌, refl, ◌⊎◌, ltb}
use Rattle.std.proofs.Common.{add-suc, add-zero, arith, sym, ap, ◌∙◌, inl, inr, ltb-true, lt-ltb}
use Rattle.std.proofs.Math.Path.{fun_ext}
use Rattle.words.specs.Bools.{same_test}
use Rattle.words.specs.BelowLaws.{count_from, count_cong}
use Rattle.steps.proofs.Indices.{by_parts}
use Rattle.steps.specs.Model.{Step, store, write_back, fence, Steps, line, stores_to, made, arrives, run, cut}
use Rattle.steps.specs.Model.{Rule, Permitted}
use Rattle.steps.specs.Settling.{Settled, AllSettled}
use Rattle.steps.proofs.Settling.{Lawful, InLines}
use Rattle.steps.proofs.Settling.{settled_mono, permitted_arrives, arrives_permitted}
use Rattle.steps.specs.Section.{Section}
use Rattle.steps.proofs.Section.{Closed, Cuts, cut_run, section_cut}

-- the steps from the k-th on
abbrev pub from : ℕ → Steps → Steps
from k s i = s (k + i)

-- the arrivals of the steps from the k-th on, where all stores before them arrived
abbrev pub rest : (ℕ → ℕ) → Steps → ℕ → (ℕ → ℕ) → ℕ → ℕ
rest unit s k a u = a u - made unit s k u

-- ---- a list taken part by part

pub made_from_lem : (unit : ℕ → ℕ) (s : Steps) (k n u : ℕ) → made unit s (k + n) u ≡ made unit s k u + made unit (from k s) n u
made_from_lem unit s k n u = count_from (λ i. stores_to unit u (s i)) k n

-- what is settled in the rest is settled in the whole
settled_shift : (rule : Rule) → Lawful rule → (s : Steps) (k n i l : ℕ)
    → Settled rule (from k s) n i l → Settled rule s (k + n) (k + i) l
settled_shift rule L s k n i l r = record {
  back = k + r.back;
  flush = k + r.flush;
  written = r.written;
  fenced = r.fenced;
  ordered = L.shifts k i r.back r.flush r.ordered;
  behind = omega arith;
  taken = omega arith;
}

same_ltb : (a b c d : ℕ) → (a < b → c < d) → (c < d → a < b) → ltb a b ≡ ltb c d
same_ltb a b c d f g =
    same_test (ltb a b) (ltb c d) (λ e. lt-ltb c d (f (ltb-true a b e))) (λ e. lt-ltb a b (g (ltb-true c d e)))

-- a step of the rest arrives alike
arrives_from : (unit : ℕ → ℕ) (s : Steps) (a : ℕ → ℕ) (k n : ℕ) (x : Step)
    → arrives unit a (made unit s (k + n)) x ≡ arrives unit (rest unit s k a) (made unit (from k s) n) x
arrives_from unit s a k n (store p v) =
    let u = unit p in
    same_ltb (made unit s (k + n) u) (a u) (made unit (from k s) n u) (rest unit s k a u)
    (λ l. omega (arith, made_from_lem unit s k n u))
    (λ l. omega (arith, made_from_lem unit s k n u))
arrives_from unit s a k n (write_back l) = refl
arrives_from unit s a k n fence = refl

-- cutting is cutting the first part, then the rest; and so is running
cut_from : (unit : ℕ → ℕ) {M : Type 0} (write : M → ℕ → ℕ → M) (s : Steps) (a : ℕ → ℕ) (m : M) (k n : ℕ)
    → cut write unit s a m (k + n) ≡ cut write unit (from k s) (rest unit s k a) (cut write unit s a m k) n
cut_from unit write s a m k zero = rw add-zero
cut_from unit write s a m k (suc n) = rw (add-suc, cut_from unit write s a m k n, arrives_from unit s a k n (s (k + n)))

pub run_from : {M : Type 0} (write : M → ℕ → ℕ → M) (s : Steps) (m : M) (k n : ℕ)
    → run write s m (k + n) ≡ run write (from k s) (run write s m k) n
run_from write s m k zero = rw add-zero
run_from write s m k (suc n) = rw (add-suc, run_from write s m k n)

module _ (unit : ℕ → ℕ) (W : InLines unit) (rule : Rule) (L : Lawful rule) (s : Steps) (k : ℕ) where
  -- what the whole permits, less the first part's stores, the rest permits
  pub permitted_from : (n : ℕ) (a : ℕ → ℕ) → Permitted unit rule s (k + n) a
      → Permitted unit rule (from k s) n (rest unit s k a)
  permitted_from n a ok =
      arrives_permitted unit rule (from k s) n (rest unit s k a) (λ u. omega (arith, ok.most u, made_from_lem unit s k n u))
      (λ i p v l e h.
      omega (
        arith,
        permitted_arrives unit rule s (k + n) L W a ok (k + i) p v (omega arith) e (settled_shift rule L s k n i (line p) h),
        made_from_lem unit s k i (unit p),
      ))

  -- two settled parts make a settled list
  pub all_settled : (n : ℕ) → AllSettled rule s k → AllSettled rule (from k s) n → AllSettled rule s (k + n)
  all_settled n A B =
      by_parts k (λ i. (p v : ℕ) → i < k + n → s i ≡ store p v → Settled rule s (k + n) i (line p))
      (λ i h p v l e. settled_mono (k + n) (omega arith) (A i p v h e))
      (λ d p v l e. settled_shift rule L s k n d (line p) (B d p v (omega arith) e))

  module _ {M : Type 0} (write : M → ℕ → ℕ → M) (all : AllSettled rule s k) where
    -- a cut behind a settled part is a cut of the rest, from where the part was run
    pub cut_after : (n : ℕ) (a : ℕ → ℕ) (m : M) → Permitted unit rule s (k + n) a
        → cut write unit s a m (k + n) ≡ cut write unit (from k s) (rest unit s k a) (run write s m k) n
    cut_after n a m ok =
        cut_from unit write s a m k n
        ∙ ap (λ (x : M). cut write unit (from k s) (rest unit s k a) x n)
        (cut_run unit write s a m k
        (λ i p v l e.
        permitted_arrives unit rule s (k + n) L W a ok i p v (omega arith) e
        (settled_mono (k + n) (omega arith) (all i p v l e))))

    -- so if the cuts of both parts leave memories of Q, those of the whole do
    pub cuts_join : (m : M) (Q : ℕ → M → Type 0) (l : ℕ) → Cuts write unit rule s m k Q
        → Cuts write unit rule (from k s) (run write s m k) l (λ n. Q (k + n)) → Cuts write unit rule s m (k + l) Q
    cuts_join m Q l A B =
        by_parts k (λ n. (a : ℕ → ℕ) → n ≤ k + l → Permitted unit rule s n a → Q n (cut write unit s a m n))
        (λ n h a le ok. A n a (omega arith) ok)
        (λ n a le ok. rw (cut_after n a m ok) (B n (rest unit s k a) (omega arith) (permitted_from n a ok)))

-- THE TWO SECTIONS: a cut leaves the first one's memories, the second one's, or all is done
pub two_sections : (unit : ℕ → ℕ) → InLines unit → (rule : Rule) → Lawful rule → {M : Type 0} (write : M → ℕ → ℕ → M)
    (U U' : ℕ → ℕ → Type 0) (R R' : M → Type 0) → Closed write U R → Closed write U' R'
    → (s : Steps) (k l : ℕ) → Section unit rule U s k → Section unit rule U' (from k s) l
    → (m : M) → R m → R' (run write s m k)
    → Cuts write unit rule s m (k + l) (λ n x. R x ⊎ (R' x ⊎ (x ≡ run write s m (k + l))))
two_sections unit W rule L write U U' R R' up up' s k l A B m r r' =
    cuts_join unit W rule L s k write A.settled m (λ n x. R x ⊎ (R' x ⊎ (x ≡ run write s m (k + l)))) l
    (λ n a le ok. elim (section_cut unit W rule L write U R up s k A m r n a le ok) [
      | inl x ↦ inl x
      | inr e ↦ inr (inl (rw e r'))
    ])
    (λ n a le ok. elim (section_cut unit W rule L write U' R' up' (from k s) l B (run write s m k) r' n a le ok) [
      | inl x ↦ inr (inl x)
      | inr e ↦ inr (inr (e ∙ sym (run_from write s m k l)))
    ])

-- ---- two lists that agree in the steps taken are run and cut alike

abbrev pub Agree : Steps → Steps → ℕ → Type 0
Agree s t n = (i : ℕ) → i < n → s i ≡ t i

module _ (s t : Steps) where
  made_cong : (unit : ℕ → ℕ) (n u : ℕ) → Agree s t n → made unit s n u ≡ made unit t n u
  made_cong unit n u h =
      count_cong (λ i. stores_to unit u (s i)) (λ i. stores_to unit u (t i)) n (λ i l. ap (stores_to unit u) (h i l))

  pub run_cong : {M : Type 0} (write : M → ℕ → ℕ → M) (m : M) (n : ℕ) → Agree s t n → run write s m n ≡ run write t m n
  run_cong write m zero h = refl
  run_cong write m (suc n) h = rw (h n (omega arith), run_cong write m n (λ i l. h i (omega arith)))

  pub cut_cong : {M : Type 0} (write : M → ℕ → ℕ → M) (unit a : ℕ → ℕ) (m : M) (n : ℕ) → Agree s t n
      → cut write unit s a m n ≡ cut write unit t a m n
  cut_cong write unit a m zero h = refl
  cut_cong write unit a m (suc n) h =
      let f : made unit s n ≡ made unit t n = fun_ext (λ u. made_cong unit n u (λ i l. h i (omega arith))) in
      rw (h n (omega arith), f, cut_cong write unit a m n (λ i l. h i (omega arith)))

  settled_cong : (rule : Rule) (n i l : ℕ) → Agree s t n → Settled rule s n i l → Settled rule t n i l
  settled_cong rule n i l h r = record {
    back = r.back;
    flush = r.flush;
    written = sym (h r.back (omega arith)) ∙ r.written;
    fenced = sym (h r.flush (omega arith)) ∙ r.fenced;
    ordered = r.ordered;
    behind = r.behind;
    taken = r.taken;
  }

  pub all_settled_cong : (rule : Rule) (n : ℕ) → Agree s t n → AllSettled rule s n → AllSettled rule t n
  all_settled_cong rule n h A i p v l e = settled_cong rule n i (line p) h (A i p v l (h i l ∙ e))

  pub permitted_cong : (unit : ℕ → ℕ) → InLines unit → (rule : Rule) → Lawful rule → (n : ℕ) (a : ℕ → ℕ) → Agree s t n
      → Permitted unit rule t n a → Permitted unit rule s n a
  permitted_cong unit W rule L n a h ok =
      arrives_permitted unit rule s n a (λ u. rw (made_cong unit n u h) (ok.most u))
      (λ i p v l e r. rw (made_cong unit i (unit p) (λ j k. h j (omega arith)))
      (permitted_arrives unit rule t n L W a ok i p v l (sym (h i l) ∙ e) (settled_cong rule n i (line p) h r)))

  pub cuts_cong : {M : Type 0} (write : M → ℕ → ℕ → M) (unit : ℕ → ℕ) → InLines unit → (rule : Rule) → Lawful rule
      → (m : M) (N : ℕ) (Q : ℕ → M → Type 0) → Agree s t N → Cuts write unit rule s m N Q → Cuts write unit rule t m N Q
  cuts_cong write unit W rule L m N Q h A n a le ok =
      rw (← (cut_cong write unit a m n (λ i l. h i (omega arith))))
      (A n a le (permitted_cong unit W rule L n a (λ i l. h i (omega arith)) ok))
