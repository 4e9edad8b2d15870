-- "take the lowest block not in the chain", and document 01's slip "A leaf freed by del and never taken again": a block that is
-- not in the chain, whatever it holds, makes the next split find a free one, at most that block. (That put then does not answer 6
-- is demand 1.)
use Rattle.std.specs.Prelude.{◌≡◌, refl, Bool, true, false, cond, not, List, [], ◌∷◌, ◌≢◌, ℕ, ◌≤◌, ◌<◌, Option, Some, None}
use Rattle.std.proofs.Common.{sym, ap, ◌∙◌, arith, ne_eqb}
use Rattle.std.proofs.Math.Decide.{dec_lt}
use Rattle.std.proofs.lemmas.Bool.{not-true}
use Rattle.words.specs.Bools.{differ}
use Rattle.leaf.proofs.SearchLaws.{lowest_at, lowest_none}
use Rattle.image.specs.Chain.{All, LowestFree}
use Rattle.image.specs.Image.{blocks}
use Rattle.index.specs.Reading.{chain_of}
use Rattle.writing.specs.Writing.{free_of, is_among}
use Rattle.writing.proofs.PutLaws.{not_among}

-- ---- the block that a split takes

among_not : (b : ℕ) (xs : List ℕ) → All (λ x. x ≢ b) xs → is_among b xs ≡ false
among_not b [] a = refl
among_not b (x ∷ xs) a = ap (λ (t : Bool). cond t true (is_among b xs)) (ne_eqb x b a.0) ∙ among_not b xs a.1

-- a block whose test for being free is passed, or not, and one that is free
passed_over : (b : ℕ) (xs : List ℕ) → not (is_among b xs) ≡ false → All (λ x. x ≢ b) xs → ⊥
passed_over b xs e a = differ (sym (ap not (among_not b xs a)) ∙ e)

module _ (l : List ℕ) where
  pub free_lowest : (c : ℕ) → free_of l ≡ Some c → LowestFree (blocks l) (chain_of l) c
  free_lowest c e =
      let r = lowest_at (λ b. not (is_among b (chain_of l))) (blocks l) 0 c e in
      record {
        inside = omega (arith, r.below);
        free = not_among c (chain_of l) (not-true (is_among c (chain_of l)) r.passes);
        lowest = λ d h a. passed_over d (chain_of l) (r.first d (omega arith) h) a;
      }

  -- ---- THE STATEMENT

  pub taken_again : (b : ℕ) → b < blocks l → All (λ x. x ≢ b) (chain_of l)
      → (c : ℕ) × (free_of l ≡ Some c) × LowestFree (blocks l) (chain_of l) c × (c ≤ b)
  taken_again b h a = go (free_of l) refl
    where
      go : (x : Option ℕ) → free_of l ≡ x → (c : ℕ) × (free_of l ≡ Some c) × LowestFree (blocks l) (chain_of l) c × (c ≤ b)
      go (Some c) e =
          let F = free_lowest c e in
          (c, e, F, elim (dec_lt b c) [ yes lt ↦ absurd (F.lowest b lt a) | no ge ↦ omega arith ])
      go None e =
          let p = lowest_none (λ x. not (is_among x (chain_of l))) (blocks l) 0 e b (omega arith) (omega arith) in
          absurd (passed_over b (chain_of l) p a)
