-- The chain of leaves, what it holds, and when it is sound. An image is here the leaf in each block, `I`.
use Rattle.std.specs.Prelude.{◌≡◌, false, List, [], ◌∷◌, ◌⊎◌, ◌≢◌, ℕ, ◌<◌}
use Rattle.header.specs.Header.{fingerprint_of}
use Rattle.leaf.specs.Leaf.{Leaf, Taken, In}

abbrev pub All : (ℕ → Type 0) → List ℕ → Type 0
All P [] = Unit {0}
All P (b ∷ bs) = P b × All P bs

-- from block a the blocks of the list are met, each being the active sibling of the one before it, and then z comes
abbrev pub Links : (ℕ → Leaf) → ℕ → List ℕ → ℕ → Type 0
Links I a [] z = a ≡ z
Links I a (b ∷ bs) z = (a ≡ b) × Links I (I b).next bs z

abbrev pub Starts : List ℕ → Type 0
Starts [] = ⊥
Starts (b ∷ bs) = b ≡ 0

abbrev pub Distinct : List ℕ → Type 0
Distinct [] = Unit {0}
Distinct (b ∷ bs) = All (λ c. c ≢ b) bs × Distinct bs

-- some leaf of the list has the entry k, v
abbrev pub Has : (ℕ → Leaf) → List ℕ → ℕ → ℕ → Type 0
Has I [] k v = ⊥
Has I (b ∷ bs) k v = In (I b) k v ⊎ Has I bs k v

-- each key is below all keys of later leaves
abbrev pub Rising : (ℕ → Leaf) → List ℕ → Type 0
Rising I [] = Unit {0}
Rising I (b ∷ bs) = ((k v j u : ℕ) → In (I b) k v → Has I bs j u → k < j) × Rising I bs

-- an occupied slot is one of the leaf's, and has its key's fingerprint
abbrev pub Prints : Leaf → Type 0
Prints L = (s : ℕ) → Taken L s → (s < L.size) × (L.fp s ≡ fingerprint_of (L.key s))

abbrev pub Differ : Leaf → Type 0
Differ L = (s t : ℕ) → Taken L s → Taken L t → L.key s ≡ L.key t → s ≡ t

pub record Filled (L : Leaf) : Type 0 where
  pub at : ℕ
  pub taken : Taken L at

-- bs is the chain, and the image of N blocks is sound
pub record Sound (I : ℕ → Leaf) (N : ℕ) (bs : List ℕ) : Type 0 where
  -- "Block 0 is always the first leaf of the chain." "A sibling is a block number; 0 ends the chain."
  pub starts : Starts bs
  pub links : Links I 0 bs 0
  -- "every chained leaf has lock 0"
  pub unlocked : All (λ b. (I b).lock ≡ false) bs
  -- "every active sibling is below N"
  pub near : All (λ b. (I b).next < N) bs
  -- "no block is met twice"
  pub distinct : Distinct bs
  -- "each occupied slot has its key's fingerprint"
  pub prints : All (λ b. Prints (I b)) bs
  -- "all keys in a leaf differ"
  pub differ : All (λ b. Differ (I b)) bs
  -- "every key is above all keys of earlier leaves"
  pub rising : Rising I bs
  -- "and no leaf but block 0 is empty"
  pub filled : All (λ b. (b ≡ 0) ⊎ Filled (I b)) bs

-- "the lowest block not in the chain": c, of an image of N blocks
pub record LowestFree (N : ℕ) (bs : List ℕ) (c : ℕ) : Type 0 where
  pub inside : c < N
  pub free : All (λ b. b ≢ c) bs
  pub lowest : (d : ℕ) → d < c → All (λ b. b ≢ d) bs → ⊥
