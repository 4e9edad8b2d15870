-- Two buffers filled with the keys and values of entries, one by one, while there is room: what the loops of listing and
-- recovery compute, and what it comes to.
use Rattle.std.specs.Prelude.{◌≡◌, ltb, drop, set}
use Rattle.std.proofs.Math.Path.{refl, sym}
use Rattle.std.proofs.Common.{ap, ◌∙◌, zero-add, lt-ltb, le-ltb, ltb-false, length-take, length-drop, take, take-append-drop, append-nil, append_assoc, add_assoc}
use Rattle.std.proofs.Math.Bool.{cond}
use mathlib.Core.List.{List, [], ◌∷◌, ◌++◌, map}
use Prim.Native.Nat.{ℕ, suc, ◌+◌, ◌-◌, ◌≤◌, ◌<◌}
use Rattle.std.proofs.Math.Numerals.{add-one}
use Rattle.std.proofs.Math.Decide.{dec_lt}
use native.Mathlib.Omega.{arith}
use Rattle.std.proofs.Math.ListN.{length}
use borrow.Rule.Slice.PartMut.{put_mid, mid_of}
use Rattle.std.proofs.lemmas.List.{length-map, set-append_right, take_all, drop_all, drop-append-le}
use Rattle.std.proofs.lemmas.List.Edits.{sets, sets-eq}
use Rattle.std.proofs.Math.Seq.{take-nil}
use Rattle.words.specs.Bools.{by_test}
use Rattle.image.specs.Map.{Entry}
use Rattle.index.specs.Reading.{over}
use Rattle.index.specs.Filling.{Buffers, buffers, entered, fill}

-- ---- the buffers

sets_over : (xs l : List ℕ) → length xs ≤ length l → sets l 0 xs ≡ over xs l
sets_over xs l h = sets-eq xs l 0 (omega arith) ∙ ap (λ (m : ℕ). xs ++ drop m l) (zero-add (length xs))

-- in a part of a buffer and the rest behind it
pub over_part : (xs l : List ℕ) (n : ℕ) → length xs ≤ n → n ≤ length l → over xs (take n l) ++ drop n l ≡ over xs l
over_part xs l n few fit =
    append_assoc xs (drop (length xs) (take n l)) (drop n l)
    ∙ ap (λ (ys : List ℕ). xs ++ ys)
    (sym (drop-append-le (length xs) (take n l) (drop n l) (omega (arith, length-take n l)))
    ∙ ap (drop (length xs)) (take-append-drop n l))

-- a part of the buffers filled is the whole filled from there on
abbrev pub behind : List ℕ → List ℕ → Buffers → Buffers
behind p q b = buffers (length p + b.used) (p ++ b.keys) (q ++ b.values)

set_behind : (p xs : List ℕ) (n m v : ℕ) → n ≡ length p → set (p ++ xs) (n + m) v ≡ p ++ set xs m v
set_behind p xs n m v e =
    let a : n + m - n ≡ m = omega arith in set-append_right p xs n (n + m) v (sym e) (omega arith) ∙ rw a

pub fill_behind : (p q : List ℕ) → length p ≡ length q → (room : ℕ) (es : List Entry) (b : Buffers)
    → fill (length p + room) es (behind p q b) ≡ behind p q (fill room es b)
unfolding fill
fill_behind p q h room [] b = refl
fill_behind p q h room (e ∷ es) b = elim (dec_lt b.used room) [
  | yes y ↦ rw (
    lt-ltb b.used room y,
    lt-ltb (length p + b.used) (length p + room) (omega arith),
    add_assoc (length p) b.used 1,
    set_behind p b.keys (length p) b.used e.key refl,
    set_behind q b.values (length p) b.used e.val h,
  )
      (fill_behind p q h room es (entered e b))
  | no y ↦ rw (le-ltb b.used room (omega arith), le-ltb (length p + b.used) (length p + room) (omega arith))
]

-- the part from n on, as the code lends it
module _ (n : ℕ) (ks vs : List ℕ) (inside : n ≤ length ks) (long : length ks ≡ length vs) where
  lent : (xs : List ℕ) → mid_of n (length xs - n) xs ≡ drop n xs
  lent xs = take_all (length xs - n) (drop n xs) (omega (arith, length-drop n xs))

  given_back : (xs ys : List ℕ) → put_mid n (length xs - n) xs ys ≡ take n xs ++ ys
  given_back xs ys =
      ap (λ (zs : List ℕ). take n xs ++ (ys ++ zs)) (drop_all (length xs - n) (drop n xs) (omega (arith, length-drop n xs)))
      ∙ ap (λ (zs : List ℕ). take n xs ++ zs) (append-nil ys)

  pub fill_part : (es : List Entry) (m : ℕ) (ks' vs' : List ℕ)
      → buffers m ks' vs'
      ≡ fill (length (mid_of n (length ks - n) ks)) es (buffers 0 (mid_of n (length ks - n) ks) (mid_of n (length vs - n) vs))
      → buffers (n + m) (put_mid n (length ks - n) ks ks') (put_mid n (length vs - n) vs vs') ≡ fill (length ks) es (buffers n ks vs)
  fill_part es m ks' vs' is =
      let p = take n ks in
      let q = take n vs in
      let k : length p ≡ n = omega (arith, length-take n ks) in
      let w : length q ≡ n = omega (arith, length-take n vs) in
      let z : length p + 0 ≡ n = omega arith in
      let room : length p + length (drop n ks) ≡ length ks = omega (arith, length-drop n ks) in
      (λ i. buffers (sym k i + m) (given_back ks ks' i) (given_back vs vs' i)) ∙ ap (behind p q) is
      ∙ (λ i. behind p q (fill (length (lent ks i)) es (buffers 0 (lent ks i) (lent vs i))))
      ∙ sym (fill_behind p q (k ∙ sym w) (length (drop n ks)) es (buffers 0 (drop n ks) (drop n vs)))
      ∙ (λ i. fill (room i) es (buffers (z i) (take-append-drop n ks i) (take-append-drop n vs i)))

module _ (room : ℕ) where
  pub fill_full : (es : List Entry) (b : Buffers) → room ≤ b.used → fill room es b ≡ b
  unfolding fill
  fill_full [] b h = refl
  fill_full (e ∷ es) b h = rw (le-ltb b.used room h)

  pub fill_one : (e : Entry) (es : List Entry) (b : Buffers) → b.used < room → fill room (e ∷ es) b ≡ fill room es (entered e b)
  unfolding fill
  fill_one e es b h = rw (lt-ltb b.used room h)

  pub fill_append : (es fs : List Entry) (b : Buffers) → fill room (es ++ fs) b ≡ fill room fs (fill room es b)
  unfolding fill
  fill_append [] fs b = refl
  fill_append (e ∷ es) fs b = by_test
      (λ t. cond t (fill room (es ++ fs) (entered e b)) b ≡ fill room fs (cond t (fill room es (entered e b)) b))
      (ltb b.used room)
      (λ h. fill_append es fs (entered e b))
      (λ h. sym (fill_full fs b (ltb-false b.used room h)))

  -- what it comes to
  fill_is : (es : List Entry) (n : ℕ) (ks vs : List ℕ)
      → fill room es (buffers n ks vs)
      ≡ buffers (n + length (take (room - n) es)) (sets ks n (map (λ e. e.key) (take (room - n) es)))
      (sets vs n (map (λ e. e.val) (take (room - n) es)))
  unfolding fill
  fill_is [] n ks vs = rw (take-nil (room - n)) (ap (λ (m : ℕ). buffers m ks vs) (omega arith))
  fill_is (e ∷ es) n ks vs = elim (dec_lt n room) [
    | yes h ↦ let q : room - n ≡ suc (room - suc n) = omega arith in
        let fs = take (room - suc n) es in
        let m : suc n + length fs ≡ n + suc (length fs) = omega arith in
        rw (lt-ltb n room h, q, add-one n)
        (fill_is es (suc n) (set ks n e.key) (set vs n e.val)
        ∙ (λ i. buffers (m i) (sets ks n (map (λ x. x.key) (e ∷ fs))) (sets vs n (map (λ x. x.val) (e ∷ fs)))))
    | no h ↦ let q : room - n ≡ 0 = omega arith in
        rw (le-ltb n room (omega arith), q) (ap (λ (m : ℕ). buffers m ks vs) (omega arith))
  ]

  -- from the start of the buffers
  pub fill_whole : (es : List Entry) (ks vs : List ℕ) → room ≤ length ks → room ≤ length vs
      → fill room es (buffers 0 ks vs)
      ≡ buffers (length (take room es)) (over (map (λ e. e.key) (take room es)) ks) (over (map (λ e. e.val) (take room es)) vs)
  fill_whole es ks vs hk hv =
      let q : room - 0 ≡ room = omega arith in
      let k = sets_over (map (λ e. e.key) (take room es)) ks (few (λ e. e.key) ks hk) in
      let v = sets_over (map (λ e. e.val) (take room es)) vs (few (λ e. e.val) vs hv) in
      fill_is es 0 ks vs ∙ rw q (λ i. buffers (zero-add (length (take room es)) i) (k i) (v i))
    where
      few : (f : Entry → ℕ) (l : List ℕ) → room ≤ length l → length (map f (take room es)) ≤ length l
      few f l h = omega (arith, length-map (take room es) f, length-take room es)
