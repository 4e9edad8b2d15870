-- Decoding and encoding are inverse on the steps of an image, every well-formed pair is a step's, and what a list holds
-- after its steps were written into it one by one.
use Rattle.std.specs.Prelude.{ℕ, zero, suc, ◌+◌, ◌-◌, ◌*◌, ◌<◌, ◌≤◌, ◌/◌, ◌^◌, true, cond, List, [], ◌∷◌, ◌++◌, ◌≡◌, refl, get_or, set, drop, ltb, eqb}
use Rattle.std.proofs.Common.{arith, append_assoc, sym, ap, ◌∙◌, length-append, length-drop, drop-cons, ltb-true, ltb-false, lt-ltb, le-ltb, eqb-true, eq-eqb}
use Rattle.std.proofs.Math.Path.{ap₂}
use Rattle.std.proofs.Math.ListN.{length}
use Rattle.std.proofs.lemmas.List.{set_at}
use Rattle.words.specs.Bools.{both, both_true, by_test}
use Rattle.steps.specs.Model.{Step, store, write_back, fence}
use Rattle.steps.specs.Encoding.{first, second, in_image, decode, is_pair, well_formed, step_at, formed_at}
use Rattle.steps.specs.Encoding.{steps_of, encode, written, put_step}
use Rattle.steps.specs.Lists.{Each}
use Rattle.steps.proofs.Lists.{each_at}

-- ---- one step

-- a step of an image is decoded from its own two words ..
pub decode_words : (z : ℕ) (x : Step) → z ≤ 65536 → in_image z x ≡ true → decode (first x) (second x) ≡ x
unfolding decode
decode_words z (store p v) h e =
    let q : 8 * p / 8 ≡ p = omega arith in rw (lt-ltb (8 * p) 4294967296 (omega (arith, ltb-true (8 * p) z e)), q)
decode_words z (write_back k) h e =
    let q : 4294967296 + k - 4294967296 ≡ k = omega arith in
    rw (
      le-ltb (4294967296 + k) 4294967296 (omega arith),
      lt-ltb (4294967296 + k) 8589934592 (omega (arith, ltb-true k (z / 64) e)),
      q,
    )
decode_words z fence h e = refl

-- .. which are well-formed ..
pub words_formed : (z : ℕ) (x : Step) → z ≤ 65536 → in_image z x ≡ true → well_formed z (first x) (second x) ≡ true
words_formed z x h e = rw (decode_words z x h e, e, eq-eqb (first x) (first x) refl, eq-eqb (second x) (second x) refl)

-- .. and a well-formed pair is the two words of its step, inside the image
pub record Pair (z : ℕ) (x : Step) (a b : ℕ) : Type 0 where
  pub inside : in_image z x ≡ true
  pub first_is : first x ≡ a
  pub second_is : second x ≡ b

pub pair_of : (z : ℕ) (x : Step) (a b : ℕ) → is_pair z x a b ≡ true → Pair z x a b
pair_of z x a b e =
    let y = both_true (in_image z x) (both (eqb (first x) a) (eqb (second x) b)) e in
    let w = both_true (eqb (first x) a) (eqb (second x) b) y.1 in
    record { inside = y.0; first_is = eqb-true (first x) a w.0; second_is = eqb-true (second x) b w.1 }

-- the first word of a decoded step fits in a word
pub first_small : (a b : ℕ) → a < 2 ^ 64 → first (decode a b) < 2 ^ 64
unfolding decode
first_small a b h =
    by_test (λ t. first (cond t (store (a / 8) b) (cond (ltb a 8589934592) (write_back (a - 4294967296)) fence)) < 2 ^ 64)
    (ltb a 4294967296)
    (λ e. omega arith)
    (λ e. by_test (λ t. first (cond t (write_back (a - 4294967296)) fence) < 2 ^ 64) (ltb a 8589934592)
    (λ t. omega (arith, ltb-false a 4294967296 e))
    (λ t. omega arith))

-- ---- a list of steps

pub encode_length : (l : List Step) → length (encode l) ≡ 2 * length l
encode_length [] = refl
encode_length (x ∷ l) = omega (arith, encode_length l)

pub encode_append : (k l : List Step) → encode (k ++ l) ≡ encode k ++ encode l
encode_append [] l = refl
encode_append (x ∷ k) l = ap (λ (r : List ℕ). first x ∷ second x ∷ r) (encode_append k l)

-- two words on is a step on
on : (a b i : ℕ) (l : List ℕ)
    → (get_or (a ∷ b ∷ l) (2 * suc i) 0 ≡ get_or l (2 * i) 0) × (get_or (a ∷ b ∷ l) (2 * suc i + 1) 0 ≡ get_or l (2 * i + 1) 0)
on a b i l =
    let e : 2 * suc i ≡ suc (suc (2 * i)) = omega arith in
    let f : 2 * suc i + 1 ≡ suc (suc (2 * i + 1)) = omega arith in
    (rw e, rw f)

-- the words of step i
words_at : (l : List Step) (r : List ℕ) (i : ℕ) → i < length l
    → (get_or (encode l ++ r) (2 * i) 0 ≡ first (steps_of l i)) × (get_or (encode l ++ r) (2 * i + 1) 0 ≡ second (steps_of l i))
words_at [] r i h = absurd (omega arith)
words_at (x ∷ l) r zero h = (refl, refl)
words_at (x ∷ l) r (suc i) h =
    let e = on (first x) (second x) i (encode l ++ r) in
    let f = words_at l r i (omega arith) in (e.0 ∙ f.0, e.1 ∙ f.1)

-- ---- writing a list step by step

pub written_length : (l : List Step) (old : List ℕ) → 2 * length l ≤ length old → length (written l old) ≡ length old
unfolding written
written_length l old h = simp (length-append, length-drop, encode_length) (omega arith)

pub written_next : (l : List Step) (x : Step) (old : List ℕ) → 2 * length l + 2 ≤ length old
    → put_step (written l old) (length l) x ≡ written (l ++ (x ∷ [])) old
unfolding written
written_next l x old h =
    let n = 2 * length l in
    let q : n + 1 ≡ suc n = omega arith in
    let s : length (encode l ++ (first x ∷ [])) ≡ suc n =
    length-append (encode l) (first x ∷ []) ∙ omega (arith, encode_length l) in
    let t : 2 * length (l ++ (x ∷ [])) ≡ suc (suc n) = omega (arith, length-append l (x ∷ [])) in
    rw (drop-cons old n 0 (omega arith), drop-cons old (suc n) 0 (omega arith), q, t, encode_append l (x ∷ []))
    (ap (λ (r : List ℕ). set r (suc n) (second x))
    (set_at (encode l) (get_or old n 0) (get_or old (suc n) 0 ∷ d) (first x) n (encode_length l)
    ∙ sym (append_assoc (encode l) (first x ∷ []) (get_or old (suc n) 0 ∷ d)))
    ∙ set_at (encode l ++ (first x ∷ [])) (get_or old (suc n) 0) d (second x) (suc n) s
    ∙ simp append_assoc)
  where
    d : List ℕ
    d = drop (suc (suc (2 * length l))) old

-- what was written is read, and well-formed
module _ (z : ℕ) (small : z ≤ 65536) (l : List Step) (old : List ℕ) (inside : Each (λ x. in_image z x ≡ true) l) where
  pub written_step : (i : ℕ) → i < length l → step_at (written l old) i ≡ steps_of l i
  unfolding written
  written_step i h =
      let w = words_at l (drop (2 * length l) old) i h in
      ap₂ decode w.0 w.1 ∙ decode_words z (steps_of l i) small (each_at (λ x. in_image z x ≡ true) l i inside h)

  pub written_formed : (i : ℕ) → i < length l → formed_at z (written l old) i ≡ true
  unfolding written
  written_formed i h =
      let w = words_at l (drop (2 * length l) old) i h in
      ap₂ (well_formed z) w.0 w.1 ∙ words_formed z (steps_of l i) small (each_at (λ x. in_image z x ≡ true) l i inside h)
