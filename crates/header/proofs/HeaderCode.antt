-- A header is held as two words: a field of the whole is a field of one of the two, and the methods, which work on one word at a
-- time, compute what `Header` says.
use Rattle.std.specs.Prelude.{false, List, ◌≡◌, ℕ, suc, ◌+◌, ◌-◌, ◌*◌, ◌/◌, ◌%◌, ◌^◌, ◌≤◌, ◌<◌, eqb, get_or}
use Rattle.std.proofs.Math.Path.{sym}
use Rattle.std.proofs.Common.{ap, ◌∙◌, mul_assoc, mul_comm, pow-suc, add-one, lit<, lit≤, pow-add}
use Rattle.std.proofs.Math.Nat.{mod-eq_of_lt, div-div-eq-div-mul}
use native.Mathlib.Omega.{arith}
use Rattle.std.specs.Int.Bits.{bit_xor, xor_zero_l, xor_zero_r}
use Rattle.std.proofs.Math.Pow.{high, low, shr-shr}
use Rattle.words.specs.Below.{IsFirst}
use Rattle.words.specs.Words.{word_at}
use Rattle.words.specs.WordLaws.{Bytes, byte_word}
use Rattle.header.specs.Fields.{field, is_one, patched}
use Rattle.header.proofs.FieldLaws.{field_lt, field_le, field_of_low, patched_code, patched_lt}
use Rattle.header.specs.Header.{whole, is_occupied, is_locked, alt_in, fingerprint_in, marked, cleared, flipped}
use Rattle.header.specs.Header.{xor_of_bytes, fingerprint_of}
use Rattle.header.proofs.Xor.{xor_assoc}

-- ---- fields of the whole

module _ (l h p w : ℕ) (small : l < 2 ^ 64) (fits : p + w ≤ 64) where
  pub field_low : field (whole l h) p w ≡ field l p w
  field_low = field_of_low (whole l h) l 64 p w fits (low h 64 small ∙ sym (mod-eq_of_lt small))

  pub patched_low : (d : ℕ) → patched (whole l h) p w d ≡ whole (patched l p w d) h
  patched_low d =
      sym (patched_code (whole l h) p w d)
      ∙ rw (field_low, ← patched_code l p w d) (omega (arith, field_le l p w))

module _ (l h p w : ℕ) (small : l < 2 ^ 64) where
  pub field_high : field (whole l h) (64 + p) w ≡ field h p w
  unfolding field
  field_high = rw (← shr-shr (whole l h) 64 p, high h 64 small)

  pub patched_high : (d : ℕ) → patched (whole l h) (64 + p) w d ≡ whole l (patched h p w d)
  patched_high d =
      sym (patched_code (whole l h) (64 + p) w d)
      ∙ rw (field_high, ← patched_code h p w d, pow-add 2 64 p)
      (omega (arith, field_le h p w, up (field h p w), up d))
    where
      up : (x : ℕ) → x * (2 ^ 64 * 2 ^ p) ≡ x * 2 ^ p * 2 ^ 64
      up x = ap (λ (m : ℕ). x * m) (mul_comm (2 ^ 64) (2 ^ p)) ∙ sym (mul_assoc x (2 ^ p) (2 ^ 64))

-- ---- what each method computes

module _ (l h : ℕ) (small : l < 2 ^ 64) where
  pub locked_low : eqb (field l 14 1) 1 ≡ is_locked (whole l h)
  unfolding is_locked
  locked_low = rw (field_low l h 14 1 small (lit≤ tt))

  pub alt_low : field l 15 1 ≡ alt_in (whole l h)
  unfolding alt_in
  alt_low = sym (field_low l h 15 1 small (lit≤ tt))

  pub flipped_low : whole (patched l 15 1 (1 - field l 15 1)) h ≡ flipped (whole l h)
  unfolding flipped
  flipped_low = rw (← alt_low) (sym (patched_low l h 15 1 small (lit≤ tt) (1 - field l 15 1)))

module _ (l h s : ℕ) (small : l < 2 ^ 64) (slot : s < 14) where
  pub occupied_low : eqb (field l s 1) 1 ≡ is_occupied (whole l h) s
  unfolding is_occupied
  occupied_low = rw (field_low l h s 1 small (omega arith))

  pub fingerprint_low : s < 6 → field l (16 + 8 * s) 8 % 256 ≡ fingerprint_in (whole l h) s
  unfolding fingerprint_in
  fingerprint_low b = mod-eq_of_lt (field_lt l (16 + 8 * s) 8) ∙ sym (field_low l h (16 + 8 * s) 8 small (omega arith))

  pub fingerprint_high : 6 ≤ s → field h (8 * s - 48) 8 % 256 ≡ fingerprint_in (whole l h) s
  unfolding fingerprint_in
  fingerprint_high b =
      let e : 16 + 8 * s ≡ 64 + (8 * s - 48) = omega arith in
      rw e (mod-eq_of_lt (field_lt h (8 * s - 48) 8) ∙ sym (field_high l h (8 * s - 48) 8 small))

  pub cleared_low : whole (patched l s 1 0) h ≡ cleared (whole l h) s
  unfolding cleared
  cleared_low = sym (patched_low l h s 1 small (omega arith) 0)

  marked_bit : patched (whole l h) s 1 1 ≡ whole (patched l s 1 1) h
  marked_bit = patched_low l h s 1 small (omega arith) 1

  bit_small : patched l s 1 1 < 2 ^ 64
  bit_small = patched_lt l s 1 1 64 small (omega arith) (lit< tt)

  pub marked_low : (f : ℕ) → s < 6 → whole (patched (patched l s 1 1) (16 + 8 * s) 8 f) h ≡ marked (whole l h) s f
  unfolding marked
  marked_low f b =
      rw marked_bit (sym (patched_low (patched l s 1 1) h (16 + 8 * s) 8 bit_small (omega arith) f))

  pub marked_high : (f : ℕ) → 6 ≤ s → whole (patched l s 1 1) (patched h (8 * s - 48) 8 f) ≡ marked (whole l h) s f
  unfolding marked
  marked_high f a =
      let e : 16 + 8 * s ≡ 64 + (8 * s - 48) = omega arith in
      rw (marked_bit, e) (sym (patched_high (patched l s 1 1) h (8 * s - 48) 8 bit_small f))

-- ---- the loop over a key's bytes: what is mixed so far, with what the rest still gives, is the fingerprint

pub mix_start : (k : ℕ) → bit_xor 0 (xor_of_bytes 8 k) ≡ fingerprint_of k
unfolding fingerprint_of
mix_start k = xor_zero_l (xor_of_bytes 8 k)

pub mix_step : (i mix rest : ℕ) → i < 8
    → bit_xor (bit_xor mix (rest % 256)) (xor_of_bytes (8 - (i + 1)) (rest / 256)) ≡ bit_xor mix (xor_of_bytes (8 - i) rest)
unfolding xor_of_bytes
mix_step i mix rest h =
    let e : 8 - i ≡ suc (8 - (i + 1)) = omega arith in
    xor_assoc mix (rest % 256) (xor_of_bytes (8 - (i + 1)) (rest / 256)) ∙ ap (λ (n : ℕ). bit_xor mix (xor_of_bytes n rest)) (sym e)

-- and where the bytes are taken as they stand in a list
pub mix_byte : (l : List ℕ) (p i mix b : ℕ) → Bytes l → i < 8 → b ≡ get_or l (p + i) 0
    → bit_xor (bit_xor mix b) (xor_of_bytes (8 - (i + 1)) (word_at l p / 256 ^ (i + 1)))
    ≡ bit_xor mix (xor_of_bytes (8 - i) (word_at l p / 256 ^ i))
mix_byte l p i mix b h lt e =
    let q : 256 ^ (i + 1) ≡ 256 ^ i * 256 = ap (λ (n : ℕ). 256 ^ n) (add-one i) ∙ pow-suc 256 i in
    rw (e, ← byte_word l p i h lt, q, ← div-div-eq-div-mul (word_at l p) (256 ^ i) 256) (mix_step i mix (word_at l p / 256 ^ i) lt)

pub mix_end : (mix rest i : ℕ) → 8 ≤ i → bit_xor mix (xor_of_bytes (8 - i) rest) ≡ mix
unfolding xor_of_bytes
mix_end mix rest i h = let e : 8 - i ≡ 0 = omega arith in rw e (xor_zero_r mix)

-- by the lowest bit of word 0 that is 1
module _ (l h : ℕ) (small : l < 2 ^ 64) where
  pub first_taken : (s : ℕ) → IsFirst (is_one l) 64 s → s < 14 → IsFirst (is_occupied (whole l h)) 14 s
  first_taken s z b = record {
    inside = b;
    holds = sym (occupied_low l h s small b) ∙ z.holds;
    before = λ t c. sym (occupied_low l h t small (omega arith)) ∙ z.before t c;
  }

  -- all bits below the 14th, or above it, are 0
  pub none_taken : ((t : ℕ) → t < 14 → is_one l t ≡ false) → (t : ℕ) → t < 14 → is_occupied (whole l h) t ≡ false
  none_taken f t b = sym (occupied_low l h t small b) ∙ f t b
