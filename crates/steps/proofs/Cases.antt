-- The model's definitions on small cases, by computing, and the two ends of a cut: nothing taken, and everything arrived.
use Rattle.std.specs.Prelude.{ℕ, cond, List, [], ◌∷◌, ◌≡◌, refl, set, eqb}
use native.Mathlib.Omega.{arith}
use Rattle.words.specs.Below.{any_below, count_below}
use Rattle.steps.specs.Model.{store, write_back, fence, Steps, line, made, cut, line_writes, word_writes}
use Rattle.steps.specs.Model.{Rule, rule01, is_settled, settled, Permitted}
use Rattle.steps.proofs.Settling.{settled_made}
use Rattle.steps.specs.Encoding.{steps_of}

-- ---- the two ends

module _ (unit : ℕ → ℕ) (rule : Rule) (s : Steps) where
  -- with no step taken no arrivals are permitted but 0, and the memory is unchanged
  pub permitted_none : Permitted unit rule s 0 (λ u. 0)
  unfolding count_below
  permitted_none = record { least = λ u. omega arith; most = λ u. omega arith }

  pub none_arrive : (a : ℕ → ℕ) → Permitted unit rule s 0 a → (u : ℕ) → a u ≡ 0
  unfolding count_below
  none_arrive a ok u = omega (arith, ok.most u)

  pub cut_none : {M : Type 0} (write : M → ℕ → ℕ → M) (a : ℕ → ℕ) (m : M) → cut write unit s a m 0 ≡ m
  cut_none write a m = refl

  -- that all made stores arrive is always permitted (such a cut is the run: `cut_made`)
  pub permitted_made : (n : ℕ) → Permitted unit rule s n (made unit s n)
  permitted_made n = record { least = settled_made unit rule s n; most = λ u. omega arith }

-- ---- "Steps: write-back of line 0, store to line 0, fence. Arrivals 0 for line 0: answer 10."

abbrev early : Steps
early = steps_of (write_back 0 ∷ store 0 5 ∷ fence ∷ [])

-- the store is settled; with no fence none is, and a fence before it settles nothing
early_settled : settled line rule01 early 3 0 ≡ 1
unfolding is_settled any_below count_below
early_settled = refl

no_fence : settled line rule01 (steps_of (store 0 5 ∷ write_back 0 ∷ write_back 0 ∷ [])) 3 0 ≡ 0
unfolding is_settled any_below count_below
no_fence = refl

fence_too_soon : settled line rule01 (steps_of (write_back 0 ∷ fence ∷ store 0 5 ∷ [])) 3 0 ≡ 0
unfolding is_settled any_below count_below
fence_too_soon = refl

-- ---- a line's stores arrive in order

abbrev three : Steps
three = steps_of (store 0 7 ∷ store 1 8 ∷ store 8 9 ∷ store 0 6 ∷ [])

abbrev zeros : List ℕ
zeros = 0 ∷ 0 ∷ 0 ∷ 0 ∷ 0 ∷ 0 ∷ 0 ∷ 0 ∷ 0 ∷ []

-- of the three stores to line 0 two arrive, of line 1 none
in_order : cut set line three (λ u. cond (eqb u 0) 2 0) zeros 4 ≡ 7 ∷ 8 ∷ 0 ∷ 0 ∷ 0 ∷ 0 ∷ 0 ∷ 0 ∷ 0 ∷ []
unfolding count_below
in_order = refl

-- ---- line writes and word writes

counted_lines : line_writes early 3 ≡ 1
unfolding count_below
counted_lines = refl

counted_words : word_writes early 3 ≡ 1
unfolding count_below
counted_words = refl
