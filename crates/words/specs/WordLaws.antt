-- What a client knows of words and of stores without unfolding them: a stored word is read back, other words stay, a part of an
-- image has the image's words, bytes are determined by their words, and a word is below 2^64.
use Rattle.std.specs.Prelude.{◌≡◌, refl, List, [], ◌∷◌, ℕ, zero, suc, ◌+◌, ◌*◌, ◌/◌, ◌^◌, ◌≤◌, ◌<◌, length, get_or, set, take, drop}
use Rattle.std.proofs.Common.{sym, ap, ◌∙◌, zero-add, add-suc, le_of_suc-le-suc, not-suc-le-zero, pow-suc, div-add-mod', div-one, arith, length-set, get_or-set_same, get_or-set_other, get_or-take, get_or-drop}
use Rattle.std.proofs.Math.Path.{fun_ext}
use Rattle.std.proofs.Math.Nat.{div-div-eq-div-mul, div-eq_of_lt}
use Rattle.std.proofs.Math.Decide.{ℕ_discrete, dec_lt}
use Rattle.std.proofs.Math.ListN.{get_or-eq_default}
use Rattle.words.specs.Words.{word_at, stores, byte_of, bytes_of, store_at, reads}
use Rattle.words.specs.Update.{upd, upd_same, upd_other}

-- ---- the bytes of a number

bytes_at : (v k n i : ℕ) → i < n → get_or (bytes_of v k n) i 0 ≡ byte_of v (k + i)
bytes_at v k zero i h = absurd (not-suc-le-zero h)
bytes_at v k (suc n) zero h = let e : k ≡ k + 0 = omega arith in ap (byte_of v) e
bytes_at v k (suc n) (suc i) h =
    bytes_at v (suc k) n i (le_of_suc-le-suc h) ∙ ap (byte_of v) (sym (add-suc k i ∙ suc_out k i))
  where
    suc_out : (a b : ℕ) → suc (a + b) ≡ suc a + b
    suc_out a b = omega arith

-- ---- a run of stores

length_stores : (vs l : List ℕ) (p k : ℕ) → length (stores l p k vs) ≡ length l
length_stores [] l p k = refl
length_stores (v ∷ vs) l p k = length_stores vs (set l (p + k) v) p (suc k) ∙ length-set l (p + k) v

stores_before : (vs l : List ℕ) (p k j : ℕ) → j < p + k → get_or (stores l p k vs) j 0 ≡ get_or l j 0
stores_before [] l p k j h = refl
stores_before (v ∷ vs) l p k j h =
    stores_before vs (set l (p + k) v) p (suc k) j (omega arith) ∙ get_or-set_other l (p + k) j v 0 (omega arith)

stores_after : (vs l : List ℕ) (p k j : ℕ) → p + k + length vs ≤ j → get_or (stores l p k vs) j 0 ≡ get_or l j 0
stores_after [] l p k j h = refl
stores_after (v ∷ vs) l p k j h =
    stores_after vs (set l (p + k) v) p (suc k) j (omega arith) ∙ get_or-set_other l (p + k) j v 0 (omega arith)

stores_in : (vs l : List ℕ) (p k i j : ℕ) → j ≡ p + k + i → i < length vs → j < length l
    → get_or (stores l p k vs) j 0 ≡ get_or vs i 0
stores_in [] l p k i j e h b = absurd (not-suc-le-zero h)
stores_in (v ∷ vs) l p k zero j e h b =
    let e2 : j ≡ p + k = omega arith in
    stores_before vs (set l (p + k) v) p (suc k) j (omega arith) ∙ rw e2 (get_or-set_same l (p + k) v 0 (omega arith))
stores_in (v ∷ vs) l p k (suc i) j e h b =
    stores_in vs (set l (p + k) v) p (suc k) i j (omega arith) (omega arith) (simp length-set (omega arith))

-- ---- two places with the same eight bytes have the same word

word_same : (l m : List ℕ) (p q : ℕ) → ((i : ℕ) → i < 8 → get_or l (p + i) 0 ≡ get_or m (q + i) 0) → word_at l p ≡ word_at m q
unfolding word_at
word_same l m p q h =
    cc (
      at 0 p q (omega arith) (omega arith) (omega arith),
      at 1 (p + 1) (q + 1) (omega arith) (omega arith) (omega arith),
      at 2 (p + 2) (q + 2) (omega arith) (omega arith) (omega arith),
      at 3 (p + 2 + 1) (q + 2 + 1) (omega arith) (omega arith) (omega arith),
      at 4 (p + 4) (q + 4) (omega arith) (omega arith) (omega arith),
      at 5 (p + 4 + 1) (q + 4 + 1) (omega arith) (omega arith) (omega arith),
      at 6 (p + 4 + 2) (q + 4 + 2) (omega arith) (omega arith) (omega arith),
      at 7 (p + 4 + 2 + 1) (q + 4 + 2 + 1) (omega arith) (omega arith) (omega arith),
    )
  where
    at : (i x y : ℕ) → i < 8 → x ≡ p + i → y ≡ q + i → get_or l x 0 ≡ get_or m y 0
    at i x y b ex ey = rw (ex, ey) (h i b)

-- ---- a store

pub length_store : (l : List ℕ) (p v : ℕ) → length (store_at l p v) ≡ length l
unfolding store_at
length_store l p v = length_stores (bytes_of v 0 8) l p 0

store_before : (l : List ℕ) (p v j : ℕ) → j < p → get_or (store_at l p v) j 0 ≡ get_or l j 0
unfolding store_at
store_before l p v j h = stores_before (bytes_of v 0 8) l p 0 j (omega arith)

store_after : (l : List ℕ) (p v j : ℕ) → p + 8 ≤ j → get_or (store_at l p v) j 0 ≡ get_or l j 0
unfolding store_at
store_after l p v j h = stores_after (bytes_of v 0 8) l p 0 j (omega arith)

store_in : (l : List ℕ) (p v i : ℕ) → i < 8 → p + 8 ≤ length l → get_or (store_at l p v) (p + i) 0 ≡ byte_of v i
unfolding store_at
store_in l p v i h b =
    stores_in (bytes_of v 0 8) l p 0 i (p + i) (omega arith) h (omega arith) ∙ bytes_at v 0 8 i h ∙ rw zero-add

-- a number below 2^64 is put together again from its bytes
byte_step : (v k : ℕ) → v / 256 ^ k ≡ v / 256 ^ suc k * 256 + byte_of v k
byte_step v k = sym (rw (pow-suc, ← div-div-eq-div-mul v (256 ^ k) 256) (div-add-mod' (v / 256 ^ k) 256))

sum_up : (a b c d e f g h v p q r s t u w : ℕ) → v ≡ p * 256 + a → p ≡ q * 256 + b → q ≡ r * 256 + c → r ≡ s * 256 + d
    → s ≡ t * 256 + e → t ≡ u * 256 + f → u ≡ w * 256 + g → w ≡ h
    → a + 256 * b + 65536 * (c + 256 * d) + 4294967296 * (e + 256 * f + 65536 * (g + 256 * h)) ≡ v
sum_up a b c d e f g h v p q r s t u w e0 e1 e2 e3 e4 e5 e6 e7 = omega arith

word_bytes : (v : ℕ) → v < 2 ^ 64 → word_at (bytes_of v 0 8) 0 ≡ v
unfolding word_at
word_bytes v h =
    sum_up _ _ _ _ _ _ _ _ v _ _ _ _ _ _ _ (sym (div-one v) ∙ byte_step v 0) (byte_step v 1) (byte_step v 2) (byte_step v 3)
    (byte_step v 4)
    (byte_step v 5)
    (byte_step v 6)
    (byte_step v 7 ∙ rw (div-eq_of_lt h, zero-add))

-- a word that was stored is read back, ..
pub word_store : (l : List ℕ) (p v : ℕ) → p + 8 ≤ length l → v < 2 ^ 64 → word_at (store_at l p v) p ≡ v
word_store l p v b h =
    word_same (store_at l p v) (bytes_of v 0 8) p 0
    (λ i lt. store_in l p v i lt b ∙ rw zero-add (sym (bytes_at v 0 8 i lt ∙ rw zero-add)))
    ∙ word_bytes v h

-- .. and a word that is apart from it is as it was; at a call `omega arith` proves both conditions
pub word_store_apart : (l : List ℕ) (p v q : ℕ) → (q < p → q + 8 ≤ p) → (p ≤ q → p + 8 ≤ q) → word_at (store_at l p v) q ≡ word_at l q
word_store_apart l p v q below above =
    elim (dec_lt q p) [
      | yes h ↦ word_same (store_at l p v) l q q (λ i lt. store_before l p v (q + i) (omega (arith, below h)))
      | no h ↦ word_same (store_at l p v) l q q (λ i lt. store_after l p v (q + i) (omega (arith, above (omega arith))))
    ]

-- both at once, for the words by number
pub reads_store : (l : List ℕ) (i v : ℕ) → 8 * i + 8 ≤ length l → v < 2 ^ 64 → reads (store_at l (8 * i) v) ≡ upd (reads l) i v
unfolding reads
reads_store l i v b h = fun_ext (λ j. go j (ℕ_discrete j i))
  where
    go : (j : ℕ) → Dec (j ≡ i) → word_at (store_at l (8 * i) v) (8 * j) ≡ upd (reads l) i v j
    go j (yes e) = rw (e, upd_same (reads l) i v) (word_store l (8 * i) v b h)
    go j (no ne) = rw (upd_other (reads l) i v j ne) (word_store_apart l (8 * i) v (8 * j) (omega arith) (omega arith))

-- ---- a part of a list

pub word_part : (l : List ℕ) (n k p : ℕ) → p + 8 ≤ n → word_at (take n (drop k l)) p ≡ word_at l (k + p)
word_part l n k p h =
    word_same (take n (drop k l)) l p (k + p)
    (λ i lt. get_or-take n (drop k l) (p + i) 0 (omega arith) ∙ get_or-drop k l (p + i) 0 ∙ ap (λ (j : ℕ). get_or l j 0) (omega arith))

-- the 256 bytes from block b on have the words from 32 * b on
pub reads_block : (l : List ℕ) (b i : ℕ) → i < 32 → reads (take 256 (drop (256 * b) l)) i ≡ reads l (32 * b + i)
unfolding reads
reads_block l b i h = word_part l 256 (256 * b) (8 * i) (omega arith) ∙ ap (word_at l) (omega arith)

-- ---- bytes are determined by their words

-- each element of a list is a byte
abbrev pub Bytes : List ℕ → Type 0
Bytes l = (i : ℕ) → get_or l i 0 < 256

pub word_small : (l : List ℕ) (p : ℕ) → Bytes l → word_at l p < 2 ^ 64
unfolding word_at
word_small l p h = omega (arith, h p, h (p + 1), h (p + 2), h (p + 2 + 1), h (p + 4), h (p + 4 + 1), h (p + 4 + 2), h (p + 4 + 2 + 1))

-- a number below 8 is one of the eight
by_eight : (P : ℕ → Type 0) → P 0 → P 1 → P 2 → P 3 → P 4 → P 5 → P 6 → P 7 → (k : ℕ) → k < 8 → P k
by_eight P a b c d e f g h zero lt = a
by_eight P a b c d e f g h (suc zero) lt = b
by_eight P a b c d e f g h (suc (suc zero)) lt = c
by_eight P a b c d e f g h (suc (suc (suc zero))) lt = d
by_eight P a b c d e f g h (suc (suc (suc (suc zero)))) lt = e
by_eight P a b c d e f g h (suc (suc (suc (suc (suc zero))))) lt = f
by_eight P a b c d e f g h (suc (suc (suc (suc (suc (suc zero)))))) lt = g
by_eight P a b c d e f g h (suc (suc (suc (suc (suc (suc (suc zero))))))) lt = h
by_eight P a b c d e f g h (suc (suc (suc (suc (suc (suc (suc (suc k)))))))) lt = absurd (omega arith)

sum_byte : (a b c d e f g h : ℕ) → a < 256 → b < 256 → c < 256 → d < 256 → e < 256 → f < 256 → g < 256 → h < 256 → (k : ℕ) → k < 8
    → byte_of (a + 256 * b + 65536 * (c + 256 * d) + 4294967296 * (e + 256 * f + 65536 * (g + 256 * h))) k
    ≡ get_or (a ∷ b ∷ c ∷ d ∷ e ∷ f ∷ g ∷ h ∷ []) k 0
sum_byte a b c d e f g h ha hb hc hd he hf hg hh =
    by_eight
    (λ k. byte_of (a + 256 * b + 65536 * (c + 256 * d) + 4294967296 * (e + 256 * f + 65536 * (g + 256 * h))) k
    ≡ get_or (a ∷ b ∷ c ∷ d ∷ e ∷ f ∷ g ∷ h ∷ []) k 0)
    (omega arith)
    (omega arith)
    (omega arith)
    (omega arith)
    (omega arith)
    (omega arith)
    (omega arith)
    (omega arith)

-- the bytes of a word are those of the list
pub byte_word : (l : List ℕ) (p k : ℕ) → Bytes l → k < 8 → byte_of (word_at l p) k ≡ get_or l (p + k) 0
unfolding word_at
byte_word l p k h lt =
    sum_byte _ _ _ _ _ _ _ _ (h p) (h (p + 1)) (h (p + 2)) (h (p + 2 + 1)) (h (p + 4)) (h (p + 4 + 1)) (h (p + 4 + 2))
    (h (p + 4 + 2 + 1)) k lt
    ∙ by_eight
    (λ k. get_or (get_or l p 0 ∷ get_or l (p + 1) 0 ∷ get_or l (p + 2) 0 ∷ get_or l (p + 2 + 1) 0 ∷ get_or l (p + 4) 0 ∷ get_or l (p + 4 + 1) 0
    ∷ get_or l (p + 4 + 2) 0
    ∷ get_or l (p + 4 + 2 + 1) 0
    ∷ []) k 0
    ≡ get_or l (p + k) 0)
    (at p 0 (omega arith))
    refl
    refl
    (at (p + 2 + 1) 3 (omega arith))
    refl
    (at (p + 4 + 1) 5 (omega arith))
    (at (p + 4 + 2) 6 (omega arith))
    (at (p + 4 + 2 + 1) 7 (omega arith))
    k
    lt
  where
    at : (x k : ℕ) → x ≡ p + k → get_or l x 0 ≡ get_or l (p + k) 0
    at x k e = rw e

-- there is no word past the end
pub reads_past : (l : List ℕ) (i : ℕ) → length l ≤ 8 * i → reads l i ≡ 0
unfolding reads word_at
reads_past l i h = word_same l [] (8 * i) 0 (λ k lt. past l (8 * i + k) (omega arith) ∙ sym (past [] (0 + k) (omega arith)))
  where
    past : (m : List ℕ) (j : ℕ) → length m ≤ j → get_or m j 0 ≡ 0
    past m j b = get_or-eq_default m 0 {n = j} b
