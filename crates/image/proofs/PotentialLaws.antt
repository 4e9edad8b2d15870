-- What each change of a chain does to a sum over it, and to the potential for any weight and any half.
use Rattle.std.specs.Prelude.{◌≡◌, ◌≢◌, ℕ, suc, ◌+◌, ◌-◌, ◌*◌, ◌≤◌}
use Rattle.std.proofs.Math.Path.{refl, ap, ap₂}
use mathlib.Core.List.{List, [], ◌∷◌, ◌++◌}
use Rattle.std.proofs.Common.{mul-suc, mul-zero, mul-le-mul_left}
use native.Mathlib.Omega.{arith}
use Rattle.leaf.specs.Leaf.{Leaf}
use Rattle.leaf.specs.Search.{count}
use Rattle.image.specs.Chain.{All, Sound}
use Rattle.image.proofs.ChainLaws.{distinct_at, Agree}
use Rattle.image.proofs.Same.{Slots, Same}
use Rattle.image.proofs.CountLaws.{count_slots}
use Rattle.image.proofs.Changes.{agree_but, agree_around}
use Rattle.image.specs.Potential.{sum_of, excess}

-- ---- sums

module _ (f : ℕ → ℕ) where
  sum_append : (I : ℕ → Leaf) (xs ys : List ℕ) → sum_of f I (xs ++ ys) ≡ sum_of f I xs + sum_of f I ys
  unfolding sum_of
  sum_append I [] ys = omega arith
  sum_append I (x ∷ xs) ys = omega (arith, sum_append I xs ys)

  pub sum_agree : (I J : ℕ → Leaf) (bs : List ℕ) → Agree bs I J → sum_of f J bs ≡ sum_of f I bs
  unfolding sum_of
  sum_agree I J [] s = refl
  sum_agree I J (b ∷ bs) s = ap₂ (λ m n. f m + n) (count_slots s.0.slots) (sum_agree I J bs s.1)

  -- a stretch of the chain replaced
  pub sum_replaced : (I J : ℕ → Leaf) (xs M W ys : List ℕ) → Agree xs I J → Agree ys I J
      → sum_of f J (xs ++ (W ++ ys)) + sum_of f I M ≡ sum_of f I (xs ++ (M ++ ys)) + sum_of f J W
  sum_replaced I J xs M W ys a b =
      omega (
        arith,
        sum_append J xs (W ++ ys),
        sum_append J W ys,
        sum_append I xs (M ++ ys),
        sum_append I M ys,
        sum_agree I J xs a,
        sum_agree I J ys b,
      )

  -- one leaf changed
  pub sum_one : (I J : ℕ → Leaf) (N : ℕ) (xs : List ℕ) (b : ℕ) (ys : List ℕ) → Sound I N (xs ++ (b ∷ ys))
      → ((x : ℕ) → x ≢ b → Same (I x) (J x))
      → sum_of f J (xs ++ (b ∷ ys)) + f (count (I b)) ≡ sum_of f I (xs ++ (b ∷ ys)) + f (count (J b))
  unfolding sum_of
  sum_one I J N xs b ys S others =
      let a : All (λ x. x ≢ b) xs × All (λ x. x ≢ b) ys = distinct_at xs b ys S.distinct in
      omega (
        arith,
        sum_replaced I J xs (b ∷ []) (b ∷ []) ys (agree_but I J b others xs a.0) (agree_but I J b others ys a.1),
      )

  -- a leaf taken out
  pub sum_unlink : (I J : ℕ → Leaf) (N : ℕ) (xs : List ℕ) (p b : ℕ) (ys : List ℕ) → Sound I N (xs ++ (p ∷ b ∷ ys))
      → ((x : ℕ) → x ≢ p → Same (I x) (J x)) → Slots (I p) (J p)
      → sum_of f J (xs ++ (p ∷ ys)) + f (count (I b)) ≡ sum_of f I (xs ++ (p ∷ b ∷ ys))
  unfolding sum_of
  sum_unlink I J N xs p b ys S others slots =
      let a : All (λ x. x ≢ p) xs × All (λ x. x ≢ p) (b ∷ ys) = distinct_at xs p (b ∷ ys) S.distinct in
      omega (
        arith,
        ap f (count_slots slots),
        sum_replaced I J xs (p ∷ b ∷ []) (p ∷ []) ys (agree_but I J p others xs a.0) (agree_but I J p others ys a.1.1),
      )

  -- a leaf split
  pub sum_split : (I J : ℕ → Leaf) (N : ℕ) (xs : List ℕ) (b c : ℕ) (ys : List ℕ) → Sound I N (xs ++ (b ∷ ys))
      → All (λ x. x ≢ c) (xs ++ (b ∷ ys)) → ((x : ℕ) → x ≢ b → x ≢ c → Same (I x) (J x))
      → sum_of f J (xs ++ (b ∷ c ∷ ys)) + f (count (I b)) ≡ sum_of f I (xs ++ (b ∷ ys)) + (f (count (J b)) + f (count (J c)))
  unfolding sum_of
  sum_split I J N xs b c ys S fresh others =
      let a : Agree xs I J × Agree ys I J = agree_around I J N xs b c ys S fresh others in
      omega (arith, sum_replaced I J xs (b ∷ []) (b ∷ c ∷ []) ys a.0 a.1)

-- ---- the potential, for any weight and any half

module _ (weight half : ℕ) where
  excess_more : (n : ℕ) → excess weight half (suc n) ≤ excess weight half n + weight
  excess_more n =
      let a : weight * (suc n - half) ≤ weight * suc (n - half) = mul-le-mul_left weight (omega arith) in
      omega (arith, mul-suc weight (n - half))

  excess_less : (m n : ℕ) → m ≤ n → excess weight half m ≤ excess weight half n
  excess_less m n h = mul-le-mul_left weight (omega arith)

  -- one leaf has an entry more, or has no more than it had
  module _ (I J : ℕ → Leaf) (N : ℕ) (xs : List ℕ) (b : ℕ) (ys : List ℕ) (S : Sound I N (xs ++ (b ∷ ys)))
      (others : (x : ℕ) → x ≢ b → Same (I x) (J x)) where
    pub phi_put : count (J b) ≡ suc (count (I b))
        → sum_of (excess weight half) J (xs ++ (b ∷ ys)) ≤ sum_of (excess weight half) I (xs ++ (b ∷ ys)) + weight
    phi_put e =
        omega (
          arith,
          sum_one (excess weight half) I J N xs b ys S others,
          ap (excess weight half) e,
          excess_more (count (I b)),
        )

    pub phi_fewer : count (J b) ≤ count (I b)
        → sum_of (excess weight half) J (xs ++ (b ∷ ys)) ≤ sum_of (excess weight half) I (xs ++ (b ∷ ys))
    phi_fewer h =
        omega (arith, sum_one (excess weight half) I J N xs b ys S others, excess_less (count (J b)) (count (I b)) h)

  pub phi_unlink : (I J : ℕ → Leaf) (N : ℕ) (xs : List ℕ) (p b : ℕ) (ys : List ℕ) → Sound I N (xs ++ (p ∷ b ∷ ys))
      → ((x : ℕ) → x ≢ p → Same (I x) (J x)) → Slots (I p) (J p)
      → sum_of (excess weight half) J (xs ++ (p ∷ ys)) ≤ sum_of (excess weight half) I (xs ++ (p ∷ b ∷ ys))
  phi_unlink I J N xs p b ys S others slots =
      omega (arith, sum_unlink (excess weight half) I J N xs p b ys S others slots)

  -- a full leaf split in two halves, the new one with n entries more
  pub phi_split : (I J : ℕ → Leaf) (N : ℕ) (xs : List ℕ) (b c : ℕ) (ys : List ℕ) → Sound I N (xs ++ (b ∷ ys))
      → All (λ x. x ≢ c) (xs ++ (b ∷ ys)) → ((x : ℕ) → x ≢ b → x ≢ c → Same (I x) (J x))
      → count (I b) ≡ half + half → count (J b) ≡ half → (n : ℕ) → count (J c) ≡ half + n
      → sum_of (excess weight half) J (xs ++ (b ∷ c ∷ ys)) + weight * half
      ≡ sum_of (excess weight half) I (xs ++ (b ∷ ys)) + weight * n
  phi_split I J N xs b c ys S fresh others full old n new =
      omega (
        arith,
        sum_split (excess weight half) I J N xs b c ys S fresh others,
        above (count (I b)) half full,
        above (count (J b)) 0 (omega arith),
        above (count (J c)) n new,
        mul-zero weight,
      )
    where
      above : (m d : ℕ) → m ≡ half + d → excess weight half m ≡ weight * d
      above m d e = let q : m - half ≡ d = omega arith in ap (λ (x : ℕ). weight * x) q
