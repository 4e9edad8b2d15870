-- What a client knows of a header: what marking, clearing and flipping change, and that they leave every other bit and fingerprint,
-- the lock and alt; that a header has two words; that a fingerprint is a byte, and which byte of the leaf it is.
use Rattle.std.specs.Prelude.{◌≡◌, refl, true, false, List, ◌≢◌, ℕ, zero, suc, ◌+◌, ◌-◌, ◌*◌, ◌/◌, ◌%◌, ◌^◌, ◌<◌, get_or}
use Rattle.std.proofs.Math.Path.{ap}
use Rattle.std.proofs.Common.{◌∙◌, pow-suc, arith, lit<, pow-add}
use Rattle.std.proofs.Math.Decide.{dec_lt}
use Rattle.std.proofs.lemmas.Nat.{xor_lt}
use Rattle.std.proofs.Math.Dec.{eqb}
use Rattle.words.specs.Words.{word_at, byte_of}
use Rattle.words.specs.WordLaws.{Bytes, byte_word, word_small}
use Rattle.header.specs.Fields.{field, patched}
use Rattle.header.proofs.FieldLaws.{field_lt, field_patched, field_patched_above, field_patched_below, field_apart}
use Rattle.header.specs.Header.{whole, head_at, is_occupied, is_locked, alt_in, fingerprint_in}
use Rattle.header.specs.Header.{marked, cleared, flipped, xor_of_bytes, fingerprint_of}
use Rattle.header.proofs.HeaderCode.{field_low, field_high}

-- ---- marked

module _ (n s f : ℕ) (slot : s < 14) (byte : f < 256) where
  pub occupied_marked : is_occupied (marked n s f) s ≡ true
  unfolding is_occupied marked
  occupied_marked =
      rw (field_patched_below (patched n s 1 1) (16 + 8 * s) 8 f s 1 (omega arith), field_patched n s 1 1 (lit< tt))

  pub fingerprint_marked : fingerprint_in (marked n s f) s ≡ f
  unfolding fingerprint_in marked
  fingerprint_marked = field_patched (patched n s 1 1) (16 + 8 * s) 8 f byte

  -- every other bit of the 16
  bit_marked : (t : ℕ) → t < 16 → t ≢ s → field (marked n s f) t 1 ≡ field n t 1
  unfolding marked
  bit_marked t b ne =
      field_patched_below (patched n s 1 1) (16 + 8 * s) 8 f t 1 (omega arith)
      ∙ field_apart n s 1 1 t 1 (lit< tt) (omega arith) (omega arith)

  pub occupied_marked_other : (t : ℕ) → t < 14 → t ≢ s → is_occupied (marked n s f) t ≡ is_occupied n t
  unfolding is_occupied
  occupied_marked_other t b ne = ap (λ (x : ℕ). eqb x 1) (bit_marked t (omega arith) ne)

  pub locked_marked : is_locked (marked n s f) ≡ is_locked n
  unfolding is_locked
  locked_marked = ap (λ (x : ℕ). eqb x 1) (bit_marked 14 (omega arith) (omega arith))

  pub alt_marked : alt_in (marked n s f) ≡ alt_in n
  unfolding alt_in
  alt_marked = bit_marked 15 (omega arith) (omega arith)

  pub fingerprint_marked_other : (t : ℕ) → t ≢ s → fingerprint_in (marked n s f) t ≡ fingerprint_in n t
  unfolding fingerprint_in marked
  fingerprint_marked_other t ne =
      field_apart (patched n s 1 1) (16 + 8 * s) 8 f (16 + 8 * t) 8 byte (omega arith) (omega arith)
      ∙ field_patched_above n s 1 1 (16 + 8 * t) 8 (lit< tt) (omega arith)

-- ---- cleared

module _ (n s : ℕ) (slot : s < 14) where
  pub occupied_cleared : is_occupied (cleared n s) s ≡ false
  unfolding is_occupied cleared
  occupied_cleared = rw (field_patched n s 1 0 (lit< tt))

  bit_cleared : (t : ℕ) → t ≢ s → field (cleared n s) t 1 ≡ field n t 1
  unfolding cleared
  bit_cleared t ne = field_apart n s 1 0 t 1 (lit< tt) (omega arith) (omega arith)

  pub occupied_cleared_other : (t : ℕ) → t ≢ s → is_occupied (cleared n s) t ≡ is_occupied n t
  unfolding is_occupied
  occupied_cleared_other t ne = ap (λ (x : ℕ). eqb x 1) (bit_cleared t ne)

  pub locked_cleared : is_locked (cleared n s) ≡ is_locked n
  unfolding is_locked
  locked_cleared = ap (λ (x : ℕ). eqb x 1) (bit_cleared 14 (omega arith))

  pub alt_cleared : alt_in (cleared n s) ≡ alt_in n
  unfolding alt_in
  alt_cleared = bit_cleared 15 (omega arith)

  pub fingerprint_cleared : (t : ℕ) → fingerprint_in (cleared n s) t ≡ fingerprint_in n t
  unfolding fingerprint_in cleared
  fingerprint_cleared t = field_patched_above n s 1 0 (16 + 8 * t) 8 (lit< tt) (omega arith)

-- ---- flipped

pub alt_lt : (n : ℕ) → alt_in n < 2
unfolding alt_in
alt_lt n = field_lt n 15 1

module _ (n : ℕ) where
  one_less : 1 - alt_in n < 2
  one_less = omega arith

  pub alt_flipped : alt_in (flipped n) ≡ 1 - alt_in n
  unfolding flipped alt_in
  alt_flipped = field_patched n 15 1 (1 - field n 15 1) (omega arith)

  bit_flipped : (t : ℕ) → t < 15 → field (flipped n) t 1 ≡ field n t 1
  unfolding flipped
  bit_flipped t b = field_patched_below n 15 1 (1 - alt_in n) t 1 (omega arith)

  pub occupied_flipped : (t : ℕ) → t < 14 → is_occupied (flipped n) t ≡ is_occupied n t
  unfolding is_occupied
  occupied_flipped t b = ap (λ (x : ℕ). eqb x 1) (bit_flipped t (omega arith))

  pub locked_flipped : is_locked (flipped n) ≡ is_locked n
  unfolding is_locked
  locked_flipped = ap (λ (x : ℕ). eqb x 1) (bit_flipped 14 (omega arith))

  pub fingerprint_flipped : (t : ℕ) → fingerprint_in (flipped n) t ≡ fingerprint_in n t
  unfolding fingerprint_in flipped
  fingerprint_flipped t = field_patched_above n 15 1 (1 - alt_in n) (16 + 8 * t) 8 one_less (omega arith)

-- ---- the two words of a header

pub whole_low : (l h n : ℕ) → l < 2 ^ 64 → whole l h ≡ n → l ≡ n % 2 ^ 64
whole_low l h n small e = omega arith

-- ---- a fingerprint is a byte

bytes_lt : (n k : ℕ) → xor_of_bytes n k < 256
unfolding xor_of_bytes
bytes_lt zero k = omega arith
bytes_lt (suc n) k = xor_lt 8 (k % 256) (xor_of_bytes n (k / 256)) (omega arith) (bytes_lt n (k / 256))

pub fingerprint_lt : (k : ℕ) → fingerprint_of k < 256
unfolding fingerprint_of
fingerprint_lt k = bytes_lt 8 k

-- ---- "bytes 2 + s: fingerprint of slot s"

byte_power : (k : ℕ) → 2 ^ (8 * k) ≡ 256 ^ k
byte_power zero = refl
byte_power (suc k) =
    let e : 8 * suc k ≡ 8 * k + 8 = omega arith in rw (e, pow-add 2 (8 * k) 8, pow-suc 256 k, byte_power k)

byte_field : (n k : ℕ) → field n (8 * k) 8 ≡ byte_of n k
unfolding field
byte_field n k = rw (byte_power k)

pub fingerprint_byte : (l : List ℕ) (p s : ℕ) → Bytes l → s < 14 → fingerprint_in (head_at l p) s ≡ get_or l (p + (2 + s)) 0
unfolding head_at fingerprint_in
fingerprint_byte l p s h b =
    elim (dec_lt s 6) [
      | yes lt ↦ let e : 16 + 8 * s ≡ 8 * (2 + s) = omega arith in
          field_low (word_at l p) (word_at l (p + 8)) (16 + 8 * s) 8 (word_small l p h) (omega arith)
          ∙ rw (e, byte_field (word_at l p) (2 + s)) (byte_word l p (2 + s) h (omega arith))
      | no ge ↦ let e : 16 + 8 * s ≡ 64 + 8 * (s - 6) = omega arith in
          let x : p + 8 + (s - 6) ≡ p + (2 + s) = omega arith in
          rw (e, field_high (word_at l p) (word_at l (p + 8)) (8 * (s - 6)) 8 (word_small l p h), byte_field (word_at l (p + 8)) (s - 6))
          (byte_word l (p + 8) (s - 6) h (omega arith) ∙ rw x)
    ]
