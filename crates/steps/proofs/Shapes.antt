-- Shapes of lists that are sections: stores to one line with its write-back and a fence, and before them stores to other
-- lines with theirs. And: two lists in a row, the first of them settled.
use Rattle.std.specs.Prelude.{ℕ, suc, ◌+◌, ◌<◌, ◌≤◌, List, [], ◌∷◌, ◌++◌, ◌≡◌, ◌⊎◌, length}
use Rattle.std.proofs.Common.{arith, sym, ap, ◌∙◌, inl, inr}
use Rattle.std.proofs.Math.Decide.{dec_lt, dec_le, ℕ_discrete}
use Rattle.std.proofs.Math.Path.{fun_ext}
use Rattle.std.proofs.Math.Seq.{get_or-append_seam}
use Rattle.steps.proofs.Indices.{by_parts}
use Rattle.steps.specs.Model.{Step, store, write_back, fence, Steps, line, run, Rule}
use Rattle.steps.specs.Settling.{EachStore, Settled, AllSettled}
use Rattle.steps.proofs.Settling.{Lawful, InLines, settled_mono}
use Rattle.steps.specs.Section.{Section}
use Rattle.steps.proofs.Section.{Cuts}
use Rattle.steps.proofs.Concatenation.{from, Agree, run_cong, all_settled_cong, all_settled, cuts_join, cuts_cong}
use Rattle.steps.specs.Encoding.{steps_of}
use Rattle.steps.specs.Lists.{Each}
use Rattle.steps.proofs.Lists.{Into, Still, at_left, at_right, stored_in}
use Rattle.steps.specs.Shapes.{one_line, one_store, two_parts}

-- a line among write-backs
pub record Backed (b : List Step) (l : ℕ) : Type 0 where
  pub index : ℕ
  pub inside : index < length b
  pub is : steps_of b index ≡ write_back l

-- ---- stores, write-backs, a fence, and whatever follows

-- the stores are those of w, ..
part_store : (Q : ℕ → ℕ → Type 0) (w b r : List Step) → Each (Into Q) w → Still b
    → EachStore (steps_of (w ++ (b ++ fence ∷ r))) (length w + (length b + 1)) (λ i p v. (i < length w) × Q p v)
part_store Q w b r W B =
    by_parts (length w)
    (λ i. (p v : ℕ) → i < length w + (length b + 1) → steps_of (w ++ c) i ≡ store p v → (i < length w) × Q p v)
    (λ i h p v l e. (h, stored_in Q w c i p v W h e))
    (λ d p v l e. absurd (no_store d p v (omega arith) (sym (at_right w c d) ∙ e)))
  where
    c : List Step
    c = b ++ fence ∷ r

    no_store : EachStore (steps_of c) (length b + 1) (λ d p v. ⊥)
    no_store =
        by_parts (length b) (λ d. (p v : ℕ) → d < length b + 1 → steps_of c d ≡ store p v → ⊥)
        (λ d h p v l e. stored_in (λ p v. ⊥) b (fence ∷ r) d p v B h e)
        (λ d p v l e.
        let q : d ≡ 0 = omega arith in
        let z : ◌≡◌ {A = ℕ} 0 1 = cc (ap (steps_of (fence ∷ r)) q, at_right b (fence ∷ r) d) in
        omega arith)

-- .. and those whose line b has are settled at the fence
part_settled : (rule : Rule) → Lawful rule → (w b r : List Step) (i l : ℕ) → i < length w → Backed b l
    → Settled rule (steps_of (w ++ (b ++ fence ∷ r))) (length w + (length b + 1)) i l
part_settled rule L w b r i l h x = record {
  back = length w + x.index;
  flush = length w + length b;
  written = at_right w (b ++ fence ∷ r) x.index ∙ at_left b (fence ∷ r) x.index x.inside ∙ x.is;
  fenced = at_right w (b ++ fence ∷ r) (length b) ∙ get_or-append_seam b fence r fence;
  ordered = L.follows i (length w + x.index) (length w + length b) (omega arith) (omega arith);
  behind = omega arith;
  taken = omega arith;
}

-- ---- the sections

module _ (unit : ℕ → ℕ) (W : InLines unit) (rule : Rule) (L : Lawful rule) (U : ℕ → ℕ → Type 0) where
  -- where each store before K is unused, and is settled by then or in the switch's unit, the switch at K, its write-back
  -- and a fence make a section
  end_section : (s : Steps) (K p v : ℕ) → s K ≡ store p v → s (K + 1) ≡ write_back (line p) → s (K + 2) ≡ fence
      → EachStore s K (λ i q x. U q x × (Settled rule s K i (line q) ⊎ (unit q ≡ unit p))) → Section unit rule U s (K + 3)
  end_section s K p v at0 at1 at2 f = record {
    last = K;
    place = p;
    value = v;
    ends = omega arith;
    switch = at0;
    unused = λ i q x h e. (f i q x h e).0;
    before = λ i q x h e n. elim (f i q x h e).1 [ inl r ↦ r | inr u ↦ absurd (n u) ];
    quiet = still;
    settled = λ i q x h e. elim (dec_lt i K) [
      | yes k ↦ elim (f i q x k e).1 [
        | inl r ↦ settled_mono (K + 3) (omega arith) r
        | inr u ↦ flushed i q (omega arith) (W p q u)
      ]
      | no k ↦ let j : i ≡ K = omega (arith, still i q x h e) in flushed i q (omega arith) (cc (ap s j))
    ];
  }
    where
      still : EachStore s (K + 3) (λ i q x. i ≤ K)
      still i q x h e =
          elim (dec_le i K) [
            | yes j ↦ j
            | no j ↦ elim (ℕ_discrete i (K + 1)) [
              | yes k ↦ let z : ◌≡◌ {A = ℕ} 0 1 = cc (ap s k) in absurd (omega arith)
              | no k ↦ let l : i ≡ K + 2 = omega arith in let z : ◌≡◌ {A = ℕ} 0 1 = cc (ap s l) in absurd (omega arith)
            ]
          ]

      flushed : (i q : ℕ) → i < K + 1 → line q ≡ line p → Settled rule s (K + 3) i (line q)
      flushed i q h e = record {
        back = K + 1;
        flush = K + 2;
        written = at1 ∙ ap write_back (sym e);
        fenced = at2;
        ordered = L.follows i (K + 1) (K + 2) h (omega arith);
        behind = omega arith;
        taken = omega arith;
      }

  pub one_line_section : (t : List Step) (p v : ℕ) → Each (Into (λ q x. U q x × (unit q ≡ unit p))) t
      → Section unit rule U (steps_of (one_line t p v)) (length t + 3)
  one_line_section t p v T =
      end_section (steps_of (t ++ z)) (length t) p v (get_or-append_seam t (store p v) (write_back (line p) ∷ fence ∷ []) fence)
      (at_right t z 1) (at_right t z 2)
      (λ i q x h e.
      let g : U q x × (unit q ≡ unit p) = stored_in (λ q x. U q x × (unit q ≡ unit p)) t z i q x T h e in (g.0, inr g.1))
    where
      z : List Step
      z = one_store p v

  -- a store of w has its line in b, or is in the switch's unit
  pub two_part_section : (w b t : List Step) (p v : ℕ)
      → Each (Into (λ q x. U q x × (Backed b (line q) ⊎ (unit q ≡ unit p)))) w → Still b
      → Each (Into (λ q x. U q x × (unit q ≡ unit p))) t
      → Section unit rule U (steps_of (two_parts w b t p v)) (length w + (length b + 1) + length t + 3)
  two_part_section w b t p v A B T =
      end_section s (k + length t) p v
      (onward (length t) ∙ get_or-append_seam t (store p v) (write_back (line p) ∷ fence ∷ []) fence)
      (tail 1) (tail 2)
      (by_parts k (λ i. (q x : ℕ) → i < k + length t → s i ≡ store q x → Ready i q x)
      (λ i h q x g e. early i q x (part_store Q w b c A B i q x h e))
      (λ d q x g e.
      let y = stored_in (λ q x. U q x × (unit q ≡ unit p)) t z d q x T (omega arith) (sym (onward d) ∙ e) in
      (y.0, inr y.1)))
    where
      Q : ℕ → ℕ → Type 0
      Q q x = U q x × (Backed b (line q) ⊎ (unit q ≡ unit p))

      z : List Step
      z = one_store p v

      c : List Step
      c = t ++ z

      s : Steps
      s = steps_of (w ++ (b ++ fence ∷ c))

      k : ℕ
      k = length w + (length b + 1)

      onward : (i : ℕ) → s (k + i) ≡ steps_of c i
      onward i =
          let q : k + i ≡ length w + (length b + suc i) = omega arith in
          rw q (at_right w (b ++ fence ∷ c) (length b + suc i) ∙ at_right b (fence ∷ c) (suc i))

      tail : (i : ℕ) → s (k + length t + i) ≡ steps_of z i
      tail i = let q : k + length t + i ≡ k + (length t + i) = omega arith in rw q (onward (length t + i) ∙ at_right t z i)

      Ready : ℕ → ℕ → ℕ → Type 0
      Ready i q x = U q x × (Settled rule s (k + length t) i (line q) ⊎ (unit q ≡ unit p))

      early : (i q x : ℕ) → (i < length w) × Q q x → Ready i q x
      early i q x g = (
        g.1.0,
        elim g.1.1 [
          | inl y ↦ inl (settled_mono (k + length t) (omega arith) (part_settled rule L w b c i (line q) g.0 y))
          | inr u ↦ inr u
        ],
      )

-- ---- one list behind another

pub from_append : (k l : List Step) → from (length k) (steps_of (k ++ l)) ≡ steps_of l
from_append k l = fun_ext (at_right k l)

module _ (unit : ℕ → ℕ) (W : InLines unit) (rule : Rule) (L : Lawful rule) (k l : List Step)
    (all : AllSettled rule (steps_of k) (length k)) where
  start : Agree (steps_of k) (steps_of (k ++ l)) (length k)
  start i h = sym (at_left k l i h)

  still : AllSettled rule (steps_of (k ++ l)) (length k)
  still = all_settled_cong (steps_of k) (steps_of (k ++ l)) rule (length k) start all

  -- two settled lists are a settled one
  pub append_settled : AllSettled rule (steps_of l) (length l) → AllSettled rule (steps_of (k ++ l)) (length k + length l)
  append_settled B =
      all_settled unit W rule L (steps_of (k ++ l)) (length k) (length l) still
      (all_settled_cong (steps_of l) (from (length k) (steps_of (k ++ l))) rule (length l) (λ i h. sym (at_right k l i)) B)

  -- what the cuts of both leave, the second taken from where the first was run, the cuts of the whole leave
  pub append_cuts : {M : Type 0} (write : M → ℕ → ℕ → M) (m : M) (Q : ℕ → M → Type 0)
      → Cuts write unit rule (steps_of k) m (length k) Q
      → Cuts write unit rule (steps_of l) (run write (steps_of k) m (length k)) (length l) (λ n. Q (length k + n))
      → Cuts write unit rule (steps_of (k ++ l)) m (length k + length l) Q
  append_cuts {M} write m Q A B =
      cuts_join unit W rule L (steps_of (k ++ l)) (length k) write still m Q (length l)
      (cuts_cong (steps_of k) (steps_of (k ++ l)) write unit W rule L m (length k) Q start A)
      (rw (from_append k l, sym (run_cong (steps_of k) (steps_of (k ++ l)) write m (length k) start)) B)
