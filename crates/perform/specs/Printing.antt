-- What each function that writes leaves and tells, and the room that it needs: bytes stored one behind the other.
use Rattle.std.specs.Prelude.{◌≡◌, List, [], ◌∷◌, ◌++◌, map, ℕ, zero, suc, ◌+◌, ◌/◌, ◌%◌, ◌^◌, ◌≤◌, ◌<◌, length, take, drop, set, get_or}
use Rattle.std.proofs.Common.{ap, ap₂, not-suc-le-zero, ◌-◌, sym, ◌∙◌, subst, append_assoc, append-nil, add-zero, add-suc, suc-add, pow-suc, div-lt_iff_lt-mul, arith, length-append, length-take-le, take_all}
use Rattle.std.proofs.Math.Decide.{dec_lt}
use Rattle.std.proofs.lemmas.List.{take_more, set-set}
use Rattle.std.proofs.lemmas.List.Edits.{sets, sets-eq}
use Rattle.std.proofs.Math.Seq.{length-sets}
use Rattle.number.specs.Decimal.{decimal}
use Rattle.number.proofs.DecimalLaws.{decimal_small, decimal_more}
use Rattle.command.specs.Spelling.{parted}
use Rattle.perform.specs.Perform.{line_of, text_of, Written}

-- new is old with bytes stored from a place on, and next the place behind them
abbrev pub Stored : List ℕ → ℕ → List ℕ → List ℕ → ℕ → Type 0
Stored old at bytes new next = (next ≡ at + length bytes) × (new ≡ sets old at bytes)

-- a number and the byte behind it
abbrev pub marked : ℕ → ℕ → List ℕ
marked n mark = decimal n ++ mark ∷ []

-- the first n numbers of two lists, side by side
unfoldable pub rows_to : ℕ → List ℕ → List ℕ → List (List ℕ)
rows_to zero keys values = []
rows_to (suc n) keys values = rows_to n keys values ++ (get_or keys n 0 ∷ get_or values n 0 ∷ []) ∷ []

-- n counts bytes at the start of a buffer; said in two ways, so that the check finds by itself that `&buf[..n]` is in order
abbrev pub Counts : ℕ → List ℕ → Type 0
Counts n l = (n ≤ length l) × (n ≡ length (take n l))

sets_append : (l : List ℕ) (i : ℕ) (xs ys : List ℕ) → sets (sets l i xs) (i + length xs) ys ≡ sets l i (xs ++ ys)
sets_append l i [] ys = ap (λ (k : ℕ). sets l k ys) (add-zero i)
sets_append l i (x ∷ xs) ys =
    ap (λ (k : ℕ). sets (sets (set l i x) (suc i) xs) k ys) (add-suc i (length xs) ∙ sym (suc-add i (length xs)))
    ∙ sets_append (set l i x) (suc i) xs ys

-- bytes stored behind bytes
pub stored_behind : (l : List ℕ) (at : ℕ) (xs : List ℕ) (m : List ℕ) (p : ℕ) (ys : List ℕ) (m' : List ℕ) (p' : ℕ)
    → Stored l at xs m p → Stored m p ys m' p' → Stored l at (xs ++ ys) m' p'
stored_behind l at xs m p ys m' p' s t =
    let same = t.1 ∙ ap₂ (λ (k : List ℕ) (i : ℕ). sets k i ys) s.1 s.0 ∙ sets_append l at xs ys in
    (omega (arith, length-append xs ys), same)

pub length_small : (n : ℕ) → n < 10 → length (decimal n) ≡ 1
length_small n h = ap length (decimal_small n h)

pub length_more : (n : ℕ) → 10 ≤ n → length (decimal n) ≡ length (decimal (n / 10)) + 1
length_more n h = ap length (decimal_more n h) ∙ length-append (decimal (n / 10)) ((48 + n % 10) ∷ [])

pub sets_small : (l : List ℕ) (at n : ℕ) → n < 10 → set l at (48 + n) ≡ sets l at (decimal n)
sets_small l at n h = ap (sets l at) (sym (decimal_small n h))

pub sets_more : (l : List ℕ) (at n : ℕ) → 10 ≤ n
    → set (sets l at (decimal (n / 10))) (at + length (decimal (n / 10))) (48 + n % 10) ≡ sets l at (decimal n)
sets_more l at n h = sets_append l at (decimal (n / 10)) ((48 + n % 10) ∷ []) ∙ ap (sets l at) (sym (decimal_more n h))

-- a number below 10^(k + 1) has at most k + 1 digits
short : (k n : ℕ) → n < 10 ^ suc k → length (decimal n) ≤ suc k
short zero n h = omega (arith, length_small n h)
short (suc k) n h =
    elim (dec_lt n 10) [
      | yes lt ↦ omega (arith, length_small n lt)
      | no ge ↦ let ih = short k (n / 10) ((div-lt_iff_lt-mul (omega arith)).1 (rw pow-suc at h)) in
          omega (arith, ih, length_more n (omega arith))
    ]

pub decimal_short : (n : ℕ) → n < 2 ^ 64 → length (decimal n) ≤ 20
decimal_short n h = short 19 n (omega arith)

-- bytes stored from the start on, where they fit
pub stored_written : (l xs m : List ℕ) (p : ℕ) → Stored l 0 xs m p → p ≤ length l → Written l xs m p × Counts p m
stored_written l xs m p s room =
    let n : p ≡ length xs = omega (arith, s.0) in
    let same : m ≡ xs ++ drop p l = s.1 ∙ sets-eq xs l 0 (omega arith) ∙ ap (λ (k : ℕ). xs ++ drop k l) (start n) in
    let long : length m ≡ length l = ap length s.1 ∙ length-sets l 0 xs in
    ((n, same), (omega arith, sym (length-take-le p m (omega arith))))
  where
    start : p ≡ length xs → 0 + length xs ≡ p
    start n = omega arith

-- a tab behind each number, ..
unfoldable pub fields : List ℕ → List ℕ
fields [] = []
fields (n ∷ ns) = marked n 9 ++ fields ns

fields_push : (ns : List ℕ) (n : ℕ) → fields (ns ++ n ∷ []) ≡ fields ns ++ marked n 9
unfolding fields
fields_push [] n = append-nil (marked n 9)
fields_push (m ∷ ns) n = ap (λ (x : List ℕ). marked m 9 ++ x) (fields_push ns n) ∙ sym (append_assoc (marked m 9) (fields ns) (marked n 9))

fields_parted : (n : ℕ) (ns : List ℕ) → fields (n ∷ ns) ≡ parted (map decimal (n ∷ ns)) ++ 9 ∷ []
unfolding fields
fields_parted n [] = append-nil (marked n 9)
fields_parted n (m ∷ ns) = ap (λ (x : List ℕ). marked n 9 ++ x) (fields_parted m ns) ∙ simp append_assoc

-- one more field behind the first i
pub field_stored : (l : List ℕ) (at : ℕ) (ns : List ℕ) (i : ℕ) (m : List ℕ) (p : ℕ) (m' : List ℕ) (p' : ℕ) → i < length ns
    → Stored l at (fields (take i ns)) m p → Stored m p (marked (get_or ns i 0) 9) m' p' → Stored l at (fields (take (i + 1) ns)) m' p'
field_stored l at ns i m p m' p' h s t =
    let e = ap fields (take_more ns i 0 h) ∙ fields_push (take i ns) (get_or ns i 0) in
    subst (λ (x : List ℕ). Stored l at x m' p') (sym e) (stored_behind l at (fields (take i ns)) m p _ m' p' s t)

-- with all fields stored there is one at least, ..
pub fields_some : (l : List ℕ) (at : ℕ) (ns : List ℕ) (i : ℕ) (m : List ℕ) (p : ℕ) → 0 < length ns → length ns ≤ i
    → Stored l at (fields (take i ns)) m p → 1 ≤ p
fields_some l at [] i m p h all s = absurd (not-suc-le-zero h)
fields_some l at (n ∷ ns) i m p h all s =
    omega (
      arith,
      s.0,
      ap (λ (k : List ℕ). length (fields k)) (take_all i (n ∷ ns) all),
      ap length (fields_parted n ns),
      length-append (parted (map decimal (n ∷ ns))) (9 ∷ []),
    )

-- .. and in the last one's place comes the line end
pub line_stored : (l : List ℕ) (at : ℕ) (ns : List ℕ) (i : ℕ) (m : List ℕ) (p : ℕ) → 0 < length ns → length ns ≤ i
    → Stored l at (fields (take i ns)) m p → Stored l at (line_of ns) (set m (p - 1) 10) p
line_stored l at [] i m p h all s = absurd (not-suc-le-zero h)
line_stored l at (n ∷ ns) i m p h all s =
    let e : fields (take i (n ∷ ns)) ≡ body ++ 9 ∷ [] = ap fields (take_all i (n ∷ ns) all) ∙ fields_parted n ns in
    let before : p ≡ at + length body + 1 = omega (arith, s.0, ap length e, length-append body (9 ∷ [])) in
    let last : p - 1 ≡ at + length body = omega arith in
    let tabbed = s.1 ∙ ap (sets l at) e ∙ sym (sets_append l at body (9 ∷ [])) in (
      omega (arith, length-append body (10 ∷ [])),
      ap₂ (λ (k : List ℕ) (j : ℕ). set k j 10) tabbed last ∙ set-set (sets l at body) (at + length body) 9 10
          ∙ sets_append l at body (10 ∷ []),
    )
  where
    body : List ℕ
    body = parted (map decimal (n ∷ ns))

-- a text of one line
text_one : (ns : List ℕ) → line_of ns ≡ text_of (ns ∷ [])
unfolding text_of
text_one ns = sym (append-nil (line_of ns))

pub line_written : (l ns m : List ℕ) (p : ℕ) → Stored l 0 (line_of ns) m p → p ≤ length l
    → Written l (text_of (ns ∷ [])) m p × Counts p m
line_written l ns m p s room =
    stored_written l (text_of (ns ∷ [])) m p (subst (λ (x : List ℕ). Stored l 0 x m p) (text_one ns) s) room

-- one more line behind a text
text_behind : (lines : List (List ℕ)) (ns : List ℕ) → text_of lines ++ line_of ns ≡ text_of (lines ++ ns ∷ [])
unfolding text_of
text_behind [] ns = text_one ns
text_behind (l ∷ lines) ns = append_assoc (line_of l) (text_of lines) (line_of ns) ∙ ap (λ (t : List ℕ). line_of l ++ t) (text_behind lines ns)

-- the line n stored behind those of the first n
pub row_stored : (l keys values : List ℕ) (n : ℕ) (m : List ℕ) (p : ℕ) (m' : List ℕ) (p' : ℕ)
    → Stored l 0 (text_of (rows_to n keys values)) m p → Stored m p (line_of (get_or keys n 0 ∷ get_or values n 0 ∷ [])) m' p'
    → Stored l 0 (text_of (rows_to (n + 1) keys values)) m' p'
unfolding rows_to
row_stored l keys values n m p m' p' s t =
    let more : suc n ≡ n + 1 = omega arith in
    let lines = rows_to n keys values in
    let e = text_behind lines (get_or keys n 0 ∷ get_or values n 0 ∷ []) ∙ ap (λ (i : ℕ). text_of (rows_to i keys values)) more in
    subst (λ (x : List ℕ). Stored l 0 x m' p') e (stored_behind l 0 (text_of lines) m p _ m' p' s t)
