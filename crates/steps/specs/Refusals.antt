-- Refusals as data. To be believed: document 01's table and its "Order".
-- A call's refusals are a list of numbers, each with the condition under which it is "given exactly", in document 01's order.
use Rattle.std.specs.Prelude.{◌≡◌, true, false, Result, MatchResult, ℕ, ◌%◌, Bool, cond, not, ◌||◌, List, [], ◌∷◌, ltb, eqb}
use Rattle.steps.specs.declared.refusal.Refusal.{Refusal}
use Rattle.steps.specs.declared.refusal.Refusal.TheVariants.{
  BadImage,
  ShortList,
  Unsound,
  Present,
  Absent,
  Full,
  BadList,
  ShortBuffer,
  BadArrivals,
}

-- "When an answer is an enum, a definition gives this paper's number (..) for each of its cases."
abbrev pub number_of : Refusal → ℕ
number_of BadImage = 1
number_of ShortList = 2
number_of Unsound = 3
number_of Present = 4
number_of Absent = 5
number_of Full = 6
number_of BadList = 7
number_of ShortBuffer = 8
number_of BadArrivals = 10

-- The answer is the first number whose condition holds. "An accepted call answers 0."
abbrev pub answer : List (ℕ × Bool) → ℕ
answer [] = 0
answer (row ∷ rows) = cond row.1 row.0 (answer rows)

-- 1: "image length 0, over 65,536, or no multiple of 256"
unfoldable pub bad_image : ℕ → Bool
bad_image size = eqb size 0 || (ltb 65536 size || not (eqb (size % 256) 0))

-- a check answers a refusal exactly where its condition holds
abbrev pub Checks : Bool → Refusal → Result Unit Refusal → Type 0
Checks given refusal r = MatchResult r (λ _. given ≡ false) (λ e. (given ≡ true) × (e ≡ refusal))
