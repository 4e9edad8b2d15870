-- What each function that reads a number answers, in the shape of its code. What it means is proved in DecimalLaws.
use Rattle.std.specs.Prelude.{ℕ, ◌+◌, ◌-◌, ◌*◌, cond, List, [], ◌∷◌, eqb, ltb, Option, Some, None}

-- the bytes of the digits, from `0` to `9`
abbrev pub byte_zero : ℕ
byte_zero = 48

abbrev pub byte_nine : ℕ
byte_nine = 57

abbrev pub digit_of : ℕ → Option ℕ
digit_of b = cond (ltb b byte_zero) None (cond (ltb byte_nine b) None (Some (b - byte_zero)))

-- the number that takes no digit behind it, so that none has a leading zero, and the largest, 2^64 - 1
abbrev pub closed : ℕ
closed = 0

abbrev pub most : ℕ
most = 18446744073709551615

-- n with a digit behind it
abbrev pub grown : ℕ → ℕ → Option ℕ
grown n d = cond (eqb n closed) None (cond (ltb most (n * 10 + d)) None (Some (n * 10 + d)))

abbrev pub grown_by : ℕ → Option ℕ → Option ℕ
grown_by n (Some d) = grown n d
grown_by n None = None

abbrev pub pushed : Option ℕ → ℕ → Option ℕ
pushed (Some n) b = grown_by n (digit_of b)
pushed None b = None

unfoldable pub pushed_all : Option ℕ → List ℕ → Option ℕ
pushed_all n [] = n
pushed_all n (b ∷ bs) = pushed_all (pushed n b) bs

abbrev pub spelled_by : List ℕ → Option ℕ
spelled_by [] = None
spelled_by (b ∷ bs) = pushed_all (digit_of b) bs
