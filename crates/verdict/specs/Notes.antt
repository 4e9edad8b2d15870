-- What the state of a walk says of the leaves passed, xs: they are the chain so far, and the notes are theirs.
use Rattle.std.specs.Prelude.{◌≡◌, true, List, [], ◌∷◌, ◌++◌, ◌≢◌, ℕ, ◌≤◌, ◌<◌, length}
use Rattle.leaf.specs.Leaf.{Leaf}
use Rattle.survey.specs.Walk.{State}
use Rattle.image.specs.Chain.{All, Has}
use Rattle.image.specs.Potential.{entries}
use Rattle.image.specs.Target.{Reaches}
use Rattle.image.specs.Walk.{Walked}
use Rattle.verdict.specs.Place.{target_from, before_from}

-- the last of a list, or p where it is empty: "the leaf before" of block 0 is never asked
abbrev pub last_or : ℕ → List ℕ → ℕ
last_or p [] = p
last_or p (x ∷ xs) = last_or x xs

abbrev pub last_of : List ℕ → ℕ
last_of xs = last_or 0 xs

-- The last leaf that reaches to the key, with the leaf before it; or none does.
pub data Aim (I : ℕ → Leaf) (key : ℕ) (xs : List ℕ) (target before : ℕ) : Type 0 where
  nowhere : ((j u : ℕ) → Has I xs j u → key < j) → target ≡ 0 → Aim I key xs target before
  here : (ys zs : List ℕ) → xs ≡ ys ++ (target ∷ zs) → before ≡ last_of ys → Reaches (I target) key
      → ((j u : ℕ) → Has I zs j u → key < j) → Aim I key xs target before

pub record Notes (I : ℕ → Leaf) (N key : ℕ) (xs : List ℕ) (st : State) : Type 0 where
  pub walked : Walked I N xs st.at
  pub leaves : st.leaves ≡ length xs
  pub entries : st.entries ≡ entries I xs
  pub prev : st.prev ≡ last_of xs
  pub aim : Aim I key xs st.target st.before
  pub target : st.target ≡ target_from I key 0 xs
  pub before : st.before ≡ before_from I key 0 0 xs
  -- the largest key so far
  pub most : (j u : ℕ) → Has I xs j u → j ≤ st.last
  pub attained : (st.entries ≡ 0 → ⊥) → (u : ℕ) × Has I xs st.last u
  -- the blocks met: those passed, and the one at hand
  pub met_all : All (λ x. st.met x ≡ true) xs
  pub met_here : st.met st.at ≡ true
  pub met_only : (b : ℕ) → st.met b ≡ true → b ≢ st.at → All (λ x. x ≢ b) xs → ⊥
