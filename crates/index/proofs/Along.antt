-- The chain as the loops go along it, one block at a time: `chain_from` with a turn fewer.
use Rattle.std.specs.Prelude.{◌≡◌, cond, ◌≢◌, eqb}
use Rattle.std.proofs.Common.{ap, ◌∙◌, subst}
use mathlib.Core.List.{List, [], ◌∷◌}
use Prim.Native.Nat.{ℕ, zero, suc, ◌+◌, ◌-◌, ◌≤◌, ◌<◌}
use Rattle.std.proofs.Math.Decide.{ℕ_discrete}
use native.Mathlib.Omega.{arith}
use borrow.Author.Tests.{eq-eqb, ne_eqb}
use Rattle.leaf.specs.Leaf.{Leaf}
use Rattle.survey.specs.Walk.{State, fault_of, judged, walk, visited}
use Rattle.survey.specs.Turns.{walk_stop, visited_stop}
use Rattle.image.specs.Chain.{All}
use Rattle.verdict.proofs.Passed.{fault_number}
use Rattle.index.specs.Reading.{chain_from}

module _ (I : ℕ → Leaf) (N i b : ℕ) where
  pub chain_on : i < N → (I b).next ≢ 0 → chain_from I (N - i) b ≡ b ∷ chain_from I (N - (i + 1)) (I b).next
  unfolding chain_from
  chain_on h nz = let q : N - i ≡ suc (N - (i + 1)) = omega arith in rw (q, ne_eqb (I b).next 0 nz)

  pub chain_last : i < N → (I b).next ≡ 0 → chain_from I (N - i) b ≡ b ∷ []
  unfolding chain_from
  chain_last h z = let q : N - i ≡ suc (N - (i + 1)) = omega arith in rw (q, eq-eqb (I b).next 0 z)

  pub chain_over : N ≤ i → chain_from I (N - i) b ≡ []
  unfolding chain_from
  chain_over h = let q : N - i ≡ 0 = omega arith in rw q

  -- of the blocks still to come each passes
  abbrev pub Ahead : (ℕ → Type 0) → Type 0
  Ahead P = All P (chain_from I (N - i) b)

  pub ahead_here : (P : ℕ → Type 0) → i < N → Ahead P → P b
  unfolding chain_from
  ahead_here P h n = let q : N - i ≡ suc (N - (i + 1)) = omega arith in (rw q at n).0

pub ahead_next : (I : ℕ → Leaf) (N i b c : ℕ) (P : ℕ → Type 0) → i < N → c ≡ (I b).next → c ≢ 0 → Ahead I N i b P → Ahead I N
    (i + 1) c P
ahead_next I N i b c P h e nz n = rw e (subst (All P) (chain_on I N i b h (λ z. nz (e ∙ z))) n).1

-- ---- a walk that came to the chain's end has visited the chain

module _ (I : ℕ → Leaf) (N key : ℕ) where
  pub visited_chain : (n : ℕ) (st : State) → st.stage ≡ 0 → (walk I N key n st).stage ≡ 1 → visited I N key n st ≡ chain_from I n st.at
  unfolding visited walk chain_from judged
  visited_chain zero st z e = absurd (omega arith)
  visited_chain (suc n) st z e =
      let q = eq-eqb st.stage 0 z in rw q (ap (λ (bs : List ℕ). st.at ∷ bs) (rest (visited_chain n) (rw q at e)))
    where
      L : Leaf
      L = I st.at

      after : State
      after = judged L N key st

      stopped_at : (fault_of L N st ≡ 0 → ⊥) → 31 ≤ after.stage
      stopped_at ne = rw (ne_eqb (fault_of L N st) 0 ne) (fault_number L N st ne)

      rest : ((r : State) → r.stage ≡ 0 → (walk I N key n r).stage ≡ 1 → visited I N key n r ≡ chain_from I n r.at)
          → (walk I N key n after).stage ≡ 1 → visited I N key n after ≡ cond (eqb L.next 0) [] (chain_from I n L.next)
      rest ih e = elim (ℕ_discrete (fault_of L N st) 0) [
        | no ne ↦ let f = stopped_at ne in
            absurd (omega (arith, ap (λ (r : State). r.stage) (walk_stop I N key n after (λ z. absurd (omega arith)))))
        | yes f ↦ let j = eq-eqb (fault_of L N st) 0 f in elim (ℕ_discrete L.next 0) [
          | yes q ↦ let t = eq-eqb L.next 0 q in
              visited_stop I N key n after (rw (j, t) (λ z. absurd (omega arith))) ∙ rw t
          | no nz ↦ let t = ne_eqb L.next 0 nz in ih after (rw (j, t)) e ∙ rw (j, t)
        ]
      ]
