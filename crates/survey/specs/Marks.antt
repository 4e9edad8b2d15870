-- A set of block numbers as words: bit b % 64 of word b / 64 says that b is in it.
use Rattle.std.specs.Prelude.{◌≡◌, refl, Bool, true, false, not, List, [], ◌∷◌, ℕ, zero, suc, ◌+◌, ◌-◌, ◌*◌, ◌/◌, ◌%◌, ◌^◌, ◌≤◌, ◌<◌, max, length, get_or, set, Some, None}
use Rattle.std.proofs.Common.{sym, ap, ap₂, ◌∙◌, mod-lt, add-mul, mul_assoc, arith, lit<, pow_pos, pow-add, shr-shr, get_or-set_same, get_or-set_other}
use Rattle.std.proofs.Math.Path.{fun_ext}
use Rattle.std.proofs.Math.Decide.{ℕ_discrete, dec_lt}
use Rattle.std.proofs.Math.Nat.{zero-div}
use Rattle.std.specs.Int.Bits.{bit_or, or_step, or_zero_r}
use Rattle.std.proofs.lemmas.Nat.{or_block}
use Rattle.std.proofs.Math.Pow.{split}
use Rattle.words.specs.Below.{IsFirst}
use Rattle.words.specs.Update.{upd, upd_same, upd_other}
use Rattle.header.specs.Fields.{field, patched, is_one}
use Rattle.header.proofs.FieldLaws.{field_patched, field_apart, one_shl}
use Rattle.leaf.specs.Search.{lowest}
use Rattle.leaf.proofs.SearchLaws.{lowest_is, lowest_not}
use Rattle.survey.specs.declared.marks.Marks.{Marks}

abbrev pub blocks_in : Marks → List ℕ
blocks_in m = m.words

unfoldable pub is_in : List ℕ → ℕ → Bool
is_in l b = is_one (get_or l (b / 64) 0) (b % 64)

-- a block as the code reads it
pub in_word : (l : List ℕ) (b : ℕ) → is_one (get_or l (b / 64) 0) (b % 64) ≡ is_in l b
unfolding is_in
in_word l b = refl

abbrev four_zeros : List ℕ
four_zeros = 0 ∷ 0 ∷ 0 ∷ 0 ∷ []

pub in_none : is_in (0 ∷ 0 ∷ 0 ∷ 0 ∷ []) ≡ (λ b. false)
unfolding is_in field
in_none = fun_ext (λ b. rw (zeros (b / 64), zero-div (2 ^ (b % 64))) refl)
  where
    zeros : (i : ℕ) → get_or four_zeros i 0 ≡ zero
    zeros zero = refl
    zeros (suc zero) = refl
    zeros (suc (suc zero)) = refl
    zeros (suc (suc (suc zero))) = refl
    zeros (suc (suc (suc (suc i)))) = refl

-- setting the bit of b puts b in, and nothing else
pub in_with : (l : List ℕ) (b : ℕ) → b / 64 < length l
    → is_in (set l (b / 64) (patched (get_or l (b / 64) 0) (b % 64) 1 1)) ≡ upd (is_in l) b true
unfolding is_in
in_with l b h = fun_ext (λ c. go c (ℕ_discrete c b) (ℕ_discrete (c / 64) (b / 64)))
  where
    w : ℕ
    w = patched (get_or l (b / 64) 0) (b % 64) 1 1

    go : (c : ℕ) → Dec (c ≡ b) → Dec (c / 64 ≡ b / 64) → is_in (set l (b / 64) w) c ≡ upd (is_in l) b true c
    go c (yes e) q =
        rw (e, get_or-set_same l (b / 64) w 0 h, field_patched (get_or l (b / 64) 0) (b % 64) 1 1 (lit< tt))
        (sym (upd_same (is_in l) b true))
    go c (no ne) (yes q) =
        rw (
          q,
          get_or-set_same l (b / 64) w 0 h,
          field_apart (get_or l (b / 64) 0) (b % 64) 1 1 (c % 64) 1 (lit< tt) (omega arith) (omega arith),
          ← q,
        )
        (sym (upd_other (is_in l) b true c ne))
    go c (no ne) (no nq) = rw (get_or-set_other l (b / 64) (c / 64) w 0 nq) (sym (upd_other (is_in l) b true c ne))

-- to set a bit is to replace it by 1
or_patched : (n p : ℕ) → bit_or n (2 ^ p) ≡ patched n p 1 1
unfolding patched
or_patched n p =
    let z : 2 ^ p ≡ 1 * 2 ^ p + 0 = omega arith in
    let e : p + 1 ≡ 1 + p = omega arith in
    ap₂ bit_or (sym (split n p)) z
    ∙ or_block p (n / 2 ^ p) 1 (n % 2 ^ p) 0 (mod-lt n (pow_pos p)) (pow_pos p)
    ∙ ap₂ (λ (x y : ℕ). x * 2 ^ p + y) (or_one (n / 2 ^ p)) (or_zero_r (n % 2 ^ p))
    ∙ shifted (n / 2 ^ p / 2) (2 ^ p) (n % 2 ^ p)
    ∙ ap₂ (λ (x y : ℕ). x * y + (1 * 2 ^ p + n % 2 ^ p)) (shr-shr n p 1 ∙ ap (λ (k : ℕ). n / 2 ^ k) e) (sym (pow-add 2 1 p))
  where
    or_one : (x : ℕ) → bit_or x 1 ≡ x / 2 * 2 + 1
    or_one x =
        let m : max (x % 2) 1 ≡ 1 = omega arith in
        or_step x 1 ∙ ap₂ (λ (a b : ℕ). a * 2 + b) (or_zero_r (x / 2)) m

    shifted : (m k r : ℕ) → (m * 2 + 1) * k + r ≡ m * (2 * k) + (1 * k + r)
    shifted m k r = omega (arith, add-mul (m * 2) 1 k, mul_assoc m 2 k)

-- .. as the code does it
pub in_or : (l : List ℕ) (b : ℕ) → b / 64 < length l
    → is_in (set l (b / 64) (bit_or (get_or l (b / 64) 0) (1 * 2 ^ (b % 64) % 2 ^ 64))) ≡ upd (is_in l) b true
in_or l b h = rw (one_shl (b % 64) (omega arith), or_patched (get_or l (b / 64) 0) (b % 64)) (in_with l b h)

-- ---- the lowest that is not in the set

-- bit t of word i
bit_in : (l : List ℕ) (i t : ℕ) → t < 64 → is_in l (64 * i + t) ≡ is_one (get_or l i 0) t
unfolding is_in
bit_in l i t h =
    let q : (64 * i + t) / 64 ≡ i = omega arith in
    let r : (64 * i + t) % 64 ≡ t = omega arith in
    rw (q, r) refl

-- word by word: all blocks of the words before word i are in the set
module _ (l : List ℕ) (i : ℕ) (full : (t : ℕ) → t < 64 * i → not (is_in l t) ≡ false) where
  pub out_next : ((t : ℕ) → t < 64 → not (is_one (get_or l i 0) t) ≡ false) → (t : ℕ) → t < 64 * (i + 1) → not (is_in l t) ≡ false
  out_next f t h = elim (dec_lt t (64 * i)) [
    | yes b ↦ full t b
    | no b ↦
        let e : t ≡ 64 * i + (t - 64 * i) = omega arith in
        rw (e, bit_in l i (t - 64 * i) (omega arith)) (f (t - 64 * i) (omega arith))
  ]

  pub out_here : (r : ℕ) → i < 4 → IsFirst (λ t. not (is_one (get_or l i 0) t)) 64 r
      → IsFirst (λ b. not (is_in l b)) 256 (64 * i + r)
  out_here r h z = record {
    inside = omega (arith, z.inside);
    holds = rw (bit_in l i r z.inside) z.holds;
    before = λ t b. elim (dec_lt t (64 * i)) [
      | yes c ↦ full t c
      | no c ↦
          let e : t ≡ 64 * i + (t - 64 * i) = omega arith in
          rw (e, bit_in l i (t - 64 * i) (omega (arith, z.inside))) (z.before (t - 64 * i) (omega arith))
    ];
  }

-- the search among n
module _ (m : List ℕ) (n : ℕ) (h : n ≤ 256) where
  pub out_found : (r : ℕ) → IsFirst (λ b. not (is_in m b)) 256 r → r < n → lowest (λ b. not (is_in m b)) n 0 ≡ Some r
  out_found r z l = lowest_is (λ b. not (is_in m b)) n 0 r (record {
    from = omega arith;
    below = omega arith;
    passes = z.holds;
    first = λ t g k. z.before t k;
  })

  pub out_above : (r : ℕ) → IsFirst (λ b. not (is_in m b)) 256 r → n ≤ r → lowest (λ b. not (is_in m b)) n 0 ≡ None
  out_above r z l = lowest_not (λ b. not (is_in m b)) n 0 (λ t g k. z.before t (omega arith))

  pub out_missing : ((t : ℕ) → t < 256 → not (is_in m t) ≡ false) → lowest (λ b. not (is_in m b)) n 0 ≡ None
  out_missing f = lowest_not (λ b. not (is_in m b)) n 0 (λ t g k. f t (omega arith))
