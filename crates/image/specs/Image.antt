-- An image as the contracts see it: its bytes.
use Rattle.std.specs.Prelude.{◌≡◌, List, ℕ, ◌/◌, length, get_or}
use Rattle.words.specs.Words.{reads}
use Rattle.leaf.specs.Leaf.{Leaf, Taken, view}
use Rattle.image.specs.Map.{Map}
use Rattle.image.specs.Chain.{All, Has, Sound}

-- "An image is a byte buffer of N blocks of 256 bytes, N from 1 to 256. Every block can be a leaf."
abbrev pub blocks : List ℕ → ℕ
blocks l = length l / 256

abbrev pub leaves : List ℕ → ℕ → Leaf
leaves l = view (reads l)

-- refusal 3 is given where there is no such chain: "image not sound"
pub record SoundImage (l : List ℕ) : Type 0 where
  pub chain : List ℕ
  pub sound : Sound (leaves l) (blocks l) chain

-- "The map of a sound image is its occupied entries."
abbrev pub map_of : (l : List ℕ) → SoundImage l → Map
map_of l S = Has (leaves l) S.chain

-- "An all-zero image is blank: sound, with an empty map."
abbrev pub Blank : List ℕ → Type 0
Blank l = (p : ℕ) → get_or l p 0 ≡ 0

-- "Two sound images alike in length, chain, occupied slots and entries"
pub record AlikeLeaf (L M : Leaf) : Type 0 where
  pub occ : (s : ℕ) → M.occ s ≡ L.occ s
  pub key : (s : ℕ) → Taken L s → M.key s ≡ L.key s
  pub val : (s : ℕ) → Taken L s → M.val s ≡ L.val s

pub record Alike (l m : List ℕ) : Type 0 where
  pub long : length m ≡ length l
  pub chain : List ℕ
  pub first : Sound (leaves l) (blocks l) chain
  pub second : Sound (leaves m) (blocks m) chain
  pub slots : All (λ b. AlikeLeaf (leaves l b) (leaves m b)) chain
