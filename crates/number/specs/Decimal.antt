-- Document 01, "The bench program": the spelling of a number.
use Rattle.std.specs.Prelude.{ℕ, zero, suc, ◌+◌, ◌/◌, ◌%◌, true, false, List, [], ◌∷◌, ◌++◌, ltb}

-- "numbers decimal with no sign and no leading zero but 0 itself": n in at most k + 1 digits, ..
unfoldable pub digits : ℕ → ℕ → List ℕ
digits zero n = (48 + n) ∷ []
digits (suc k) n = elim (ltb n 10) [
  | true ↦ (48 + n) ∷ []
  | false ↦ digits k (n / 10) ++ (48 + n % 10) ∷ []
]

-- .. and n has at most n + 1
unfoldable pub decimal : ℕ → List ℕ
decimal n = digits n n
