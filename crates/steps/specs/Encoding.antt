-- How a list holds its steps: document 01's first paragraph on steps. To be believed.
-- "In a list each takes two 64-bit words."
use Rattle.std.specs.Prelude.{ℕ, ◌+◌, ◌-◌, ◌*◌, ◌/◌, Bool, true, cond, List, [], ◌∷◌, ◌++◌, length, get_or, set, drop, ltb, eqb}
use Rattle.words.specs.Bools.{both}
use Rattle.steps.specs.Model.{Step, store, write_back, fence, Steps}

-- "A store has the byte place (..) and the value; a write-back has 2^32 plus the number of a line (..), and 0; a fence has
-- 2^33 and 0."
abbrev pub first : Step → ℕ
first (store p v) = 8 * p
first (write_back k) = 4294967296 + k
first fence = 8589934592

abbrev pub second : Step → ℕ
second (store p v) = v
second (write_back k) = 0
second fence = 0

-- ".. a multiple of 8, inside the image" of z bytes, ".. a line of the image"
abbrev pub in_image : ℕ → Step → Bool
in_image z (store p v) = ltb (8 * p) z
in_image z (write_back k) = ltb k (z / 64)
in_image z fence = true

-- the step of two words
unfoldable pub decode : ℕ → ℕ → Step
decode a b = cond (ltb a 4294967296) (store (a / 8) b) (cond (ltb a 8589934592) (write_back (a - 4294967296)) fence)

-- "Every other pair is malformed": one that is not the two words of a step inside the image.
abbrev pub is_pair : ℕ → Step → ℕ → ℕ → Bool
is_pair z x a b = both (in_image z x) (both (eqb (first x) a) (eqb (second x) b))

abbrev pub well_formed : ℕ → ℕ → ℕ → Bool
well_formed z a b = is_pair z (decode a b) a b

-- the steps that a list of words holds, and whether the i-th is well-formed
abbrev pub step_at : List ℕ → Steps
step_at list i = decode (get_or list (2 * i) 0) (get_or list (2 * i + 1) 0)

abbrev pub formed_at : ℕ → List ℕ → ℕ → Bool
formed_at z list i = well_formed z (get_or list (2 * i) 0) (get_or list (2 * i + 1) 0)

-- the steps of a list of steps, by index; the words that hold them; and an old list of words with them written over its
-- start
abbrev pub steps_of : List Step → Steps
steps_of l i = get_or l i fence

abbrev pub encode : List Step → List ℕ
encode [] = []
encode (x ∷ l) = first x ∷ second x ∷ encode l

unfoldable pub written : List Step → List ℕ → List ℕ
written l old = encode l ++ drop (2 * length l) old

-- a list of words with step i written in it
abbrev pub put_step : List ℕ → ℕ → Step → List ℕ
put_step list i x = set (set list (2 * i) (first x)) (2 * i + 1) (second x)
