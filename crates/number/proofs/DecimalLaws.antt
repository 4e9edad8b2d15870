-- Numbers: a field is read as n exactly when it is n's decimal spelling and n is below 2^64.
use Rattle.std.specs.Prelude.{◌≡◌, refl, Bool, true, false, cond, ◌≢◌, List, [], ◌∷◌, ◌++◌, ℕ, zero, suc, ◌+◌, ◌-◌, ◌*◌, ◌/◌, ◌%◌, ◌^◌, ◌≤◌, ◌<◌, eqb, ltb, length, Option, Some, None}
use Rattle.std.proofs.Common.{ap, sym, ◌∙◌, append-nil, not-suc-le-zero, arith, lt-ltb, le-ltb, ne_eqb, ltb-false, length-append}
use Rattle.std.proofs.Math.Decide.{dec_lt}
use Rattle.std.proofs.lemmas.Bool.{eqb-false}
use Rattle.std.proofs.Math.Seq.{append_snoc}
use Rattle.words.specs.Bools.{never}
use Rattle.number.specs.Decimal.{digits, decimal}
use Rattle.number.specs.Reading.{byte_zero, byte_nine, digit_of, closed, most, grown, grown_by}
use Rattle.number.specs.Reading.{pushed, pushed_all, spelled_by}
use Rattle.number.proofs.ReadingLaws.{pushed_none}

-- ---- the two equations of decimal

digits_small : (k n : ℕ) → n < 10 → digits k n ≡ (48 + n) ∷ []
unfolding digits
digits_small zero n h = refl
digits_small (suc k) n h = rw (lt-ltb n 10 h, digits)

digits_more : (k n : ℕ) → 10 ≤ n → digits (suc k) n ≡ digits k (n / 10) ++ (48 + n % 10) ∷ []
unfolding digits
digits_more k n h = rw (le-ltb n 10 h, digits)

-- more turns than n change nothing
enough : (k j n : ℕ) → n ≤ k → n ≤ j → digits k n ≡ digits j n
enough zero j n hk hj = digits_small zero n (omega arith) ∙ sym (digits_small j n (omega arith))
enough (suc k) zero n hk hj = digits_small (suc k) n (omega arith) ∙ sym (digits_small zero n (omega arith))
enough (suc k) (suc j) n hk hj =
    elim (dec_lt n 10) [
      | yes h ↦ digits_small (suc k) n h ∙ sym (digits_small (suc j) n h)
      | no h ↦ digits_more k n (omega arith)
          ∙ ap (λ (l : List ℕ). l ++ (48 + n % 10) ∷ []) (enough k j (n / 10) (omega arith) (omega arith))
          ∙ sym (digits_more j n (omega arith))
    ]

pub decimal_small : (n : ℕ) → n < 10 → decimal n ≡ (48 + n) ∷ []
unfolding decimal
decimal_small n h = digits_small n n h

pub decimal_more : (n : ℕ) → 10 ≤ n → decimal n ≡ decimal (n / 10) ++ (48 + n % 10) ∷ []
unfolding decimal
decimal_more zero h = absurd (not-suc-le-zero h)
decimal_more (suc n) h =
    digits_more n (suc n) h
    ∙ ap (λ (l : List ℕ). l ++ (48 + suc n % 10) ∷ []) (enough n (suc n / 10) (suc n / 10) (omega arith) (omega arith))

-- what holds below 10, and of n if of n / 10, holds of all
pub by_digits : (P : ℕ → Type 0) → ((n : ℕ) → n < 10 → P n) → ((n : ℕ) → 10 ≤ n → P (n / 10) → P n) → (n : ℕ) → P n
by_digits P small more n = go n n (omega arith)
  where
    go : (k n : ℕ) → n ≤ k → P n
    go zero n h = small n (omega arith)
    go (suc k) n h = elim (dec_lt n 10) [
      | yes lt ↦ small n lt
      | no ge ↦ more n (omega arith) (go k (n / 10) (omega arith))
    ]

pub decimal_some : (n : ℕ) → 0 < length (decimal n)
decimal_some =
    by_digits (λ n. 0 < length (decimal n)) (λ n h. rw (decimal_small n h) (omega arith))
    (λ n h ih. rw (decimal_more n h, length-append (decimal (n / 10)) ((48 + n % 10) ∷ [])) (omega arith))

-- ---- a spelled number is read

digit_is : (d : ℕ) → d < 10 → digit_of (48 + d) ≡ Some d
digit_is d h =
    let e : 48 + d - byte_zero ≡ d = omega arith in
    rw (le-ltb (48 + d) byte_zero (omega arith), le-ltb byte_nine (48 + d) (omega arith), e)

grown_is : (n d : ℕ) → n ≢ closed → n * 10 + d < 2 ^ 64 → grown n d ≡ Some (n * 10 + d)
grown_is n d ne h = rw (ne_eqb n closed ne, le-ltb most (n * 10 + d) (omega arith))

pushed_snoc : (n : Option ℕ) (l : List ℕ) (b : ℕ) → pushed_all n (l ++ b ∷ []) ≡ pushed (pushed_all n l) b
unfolding pushed_all
pushed_snoc n [] b = refl
pushed_snoc n (x ∷ l) b = pushed_snoc (pushed n x) l b

number_snoc : (l : List ℕ) (b : ℕ) → 0 < length l → spelled_by (l ++ b ∷ []) ≡ pushed (spelled_by l) b
number_snoc [] b h = absurd (not-suc-le-zero h)
number_snoc (x ∷ l) b h = pushed_snoc (digit_of x) l b

pub number_decimal : (n : ℕ) → n < 2 ^ 64 → spelled_by (decimal n) ≡ Some n
unfolding pushed_all
number_decimal =
    by_digits (λ n. n < 2 ^ 64 → spelled_by (decimal n) ≡ Some n) (λ n h lt. rw (decimal_small n h) (digit_is n h)) more
  where
    more : (n : ℕ) → 10 ≤ n → (n / 10 < 2 ^ 64 → spelled_by (decimal (n / 10)) ≡ Some (n / 10)) → n < 2 ^ 64
        → spelled_by (decimal n) ≡ Some n
    more n h ih lt =
        let e : n / 10 * 10 + n % 10 ≡ n = omega arith in
        ap spelled_by (decimal_more n h) ∙ number_snoc (decimal (n / 10)) (48 + n % 10) (decimal_some (n / 10))
        ∙ ap (λ (m : Option ℕ). pushed m (48 + n % 10)) (ih (omega arith))
        ∙ ap (grown_by (n / 10)) (digit_is (n % 10) (omega arith))
        ∙ grown_is (n / 10) (n % 10) (omega arith) (omega arith) ∙ ap Some e

-- ---- what is read is spelled so

digit_read : (b d : ℕ) → digit_of b ≡ Some d → (b ≡ 48 + d) × (d < 10)
digit_read b d = go (ltb b byte_zero) (ltb byte_nine b) refl refl
  where
    go : (s t : Bool) → ltb b byte_zero ≡ s → ltb byte_nine b ≡ t
        → cond s None (cond t None (Some (b - byte_zero))) ≡ Some d → (b ≡ 48 + d) × (d < 10)
    go true t es et e = never cc
    go false true es et e = never cc
    go false false es et e =
        let z : b - byte_zero ≡ d = cc in
        omega (arith, ltb-false b byte_zero es, ltb-false byte_nine b et)

grown_read : (n d m : ℕ) → grown n d ≡ Some m → (n ≢ closed) × (m ≡ n * 10 + d) × (m < 2 ^ 64)
grown_read n d m = go (eqb n closed) (ltb most (n * 10 + d)) refl refl
  where
    go : (s t : Bool) → eqb n closed ≡ s → ltb most (n * 10 + d) ≡ t
        → cond s None (cond t None (Some (n * 10 + d))) ≡ Some m → (n ≢ closed) × (m ≡ n * 10 + d) × (m < 2 ^ 64)
    go true t es et e = never cc
    go false true es et e = never cc
    go false false es et e =
        let z : n * 10 + d ≡ m = cc in
        (eqb-false n closed es, sym z, omega (arith, ltb-false most (n * 10 + d) et))

pushed_read : (n b m : ℕ) → pushed (Some n) b ≡ Some m → (decimal n ++ b ∷ [] ≡ decimal m) × (m < 2 ^ 64)
pushed_read n b m = go (digit_of b) refl
  where
    go : (r : Option ℕ) → digit_of b ≡ r → grown_by n r ≡ Some m → (decimal n ++ b ∷ [] ≡ decimal m) × (m < 2 ^ 64)
    go None er e = never cc
    go (Some d) er e =
        let g = grown_read n d m e in
        let f = digit_read b d er in
        let tens : m / 10 ≡ n = omega arith in
        let units : 48 + m % 10 ≡ b = omega arith in
        (sym (decimal_more m (omega arith) ∙ rw (tens, units)), g.2)

pushed_all_read : (l : List ℕ) (m n : ℕ) → m < 2 ^ 64 → pushed_all (Some m) l ≡ Some n
    → (decimal m ++ l ≡ decimal n) × (n < 2 ^ 64)
unfolding pushed_all
pushed_all_read [] m n h e = let z : m ≡ n = cc in (append-nil (decimal m) ∙ ap decimal z, omega arith)
pushed_all_read (b ∷ l) m n h e = go (pushed (Some m) b) refl e (λ k. pushed_all_read l k n)
  where
    go : (r : Option ℕ) → pushed (Some m) b ≡ r → pushed_all r l ≡ Some n
        → ((k : ℕ) → k < 2 ^ 64 → pushed_all (Some k) l ≡ Some n → (decimal k ++ l ≡ decimal n) × (n < 2 ^ 64))
        → (decimal m ++ b ∷ l ≡ decimal n) × (n < 2 ^ 64)
    go None er e ih = let z = pushed_none l in never cc
    go (Some k) er e ih =
        let p = pushed_read m b k er in
        let q = ih k p.1 e in
        (sym (append_snoc (decimal m) b l) ∙ ap (λ (x : List ℕ). x ++ l) p.0 ∙ q.0, q.1)

pub number_read : (l : List ℕ) (n : ℕ) → spelled_by l ≡ Some n → (l ≡ decimal n) × (n < 2 ^ 64)
number_read [] n e = never cc
number_read (b ∷ l) n e = go (digit_of b) refl e
  where
    go : (r : Option ℕ) → digit_of b ≡ r → pushed_all r l ≡ Some n → (b ∷ l ≡ decimal n) × (n < 2 ^ 64)
    go None er e = let z = pushed_none l in never cc
    go (Some d) er e =
        let f = digit_read b d er in
        let q = pushed_all_read l d n (omega arith) e in
        (ap (λ (x : List ℕ). x ++ l) (ap (λ (x : ℕ). x ∷ []) f.0 ∙ sym (decimal_small d f.1)) ∙ q.0, q.1)
