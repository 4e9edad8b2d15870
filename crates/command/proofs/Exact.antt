-- A line is read as the command c exactly when its bytes are the spelling of c; every other line is malformed.
use Rattle.std.specs.Prelude.{◌≡◌, refl, Bool, true, false, cond, ◌↔◌, List, [], ◌∷◌, ◌++◌, ℕ, suc, ◌+◌, ◌/◌, ◌%◌, ◌^◌, ◌≤◌, ◌<◌, eqb, length, get_or, take, drop, Option, None, Some}
use Rattle.std.proofs.Common.{ap, sym, ◌∙◌, subst, add-zero, not-suc-le-zero, arith, eqb-true, ne_eqb, length-append, length-drop, drop_of_length-le, take_at, drop_at, drop-drop}
use Rattle.std.proofs.Math.Seq.{split_at, append_snoc}
use Rattle.words.specs.Bools.{both, by_test, differ, never}
use Rattle.number.specs.Decimal.{decimal}
use Rattle.number.specs.Reading.{spelled_by}
use Rattle.number.proofs.DecimalLaws.{by_digits, decimal_small, decimal_more, decimal_some, number_decimal, number_read}
use Rattle.command.specs.Spelling.{put_word, set_word, del_word, get_word, list_word, spelling, InRange}
use Rattle.command.specs.Reading.{until, begins, field_of, field_at, pair_of, pair_from, pair_at}
use Rattle.command.specs.Reading.{past_tab, tabbed, of_pair, of_key, parse_of}
use Rattle.command.specs.declared.Command.{Command}
use Rattle.command.specs.declared.Command.TheVariants.{Put, Set, Del, Get, List as Listing}

-- ---- what is spelled is read

-- no digit is a tab
until_decimal : (n : ℕ) (m : List ℕ) → until 9 (decimal n ++ m) ≡ length (decimal n) + until 9 m
unfolding until
until_decimal = by_digits (λ n. (m : List ℕ) → until 9 (decimal n ++ m) ≡ length (decimal n) + until 9 m) small more
  where
    small : (n : ℕ) → n < 10 → (m : List ℕ) → until 9 (decimal n ++ m) ≡ length (decimal n) + until 9 m
    small n h m = rw (decimal_small n h, ne_eqb (48 + n) 9 (omega arith)) (omega arith)

    more : (n : ℕ) → 10 ≤ n → ((m : List ℕ) → until 9 (decimal (n / 10) ++ m) ≡ length (decimal (n / 10)) + until 9 m)
        → (m : List ℕ) → until 9 (decimal n ++ m) ≡ length (decimal n) + until 9 m
    more n h ih m =
        rw (
          decimal_more n h,
          append_snoc (decimal (n / 10)) (48 + n % 10) m,
          ih ((48 + n % 10) ∷ m),
          length-append (decimal (n / 10)) ((48 + n % 10) ∷ []),
          ne_eqb (48 + n % 10) 9 (omega arith),
        ) (omega arith)

field_spelled : (l : List ℕ) (at k : ℕ) (m : List ℕ) → drop at l ≡ decimal k ++ 9 ∷ m → k < 2 ^ 64
    → field_at l at ≡ Some (k, at + length (decimal k))
unfolding until
field_spelled l at k m e h =
    let f : until 9 (drop at l) ≡ length (decimal k) =
    ap (until 9) e ∙ until_decimal k (9 ∷ m) ∙ add-zero (length (decimal k)) in
    let g : take (until 9 (drop at l)) (drop at l) ≡ decimal k =
    rw (f, e) (take_at (decimal k) (9 ∷ m) (length (decimal k)) refl) in
    ap (λ (x : List ℕ). field_of (spelled_by x) (at + until 9 (drop at l))) g
    ∙ ap (λ (x : Option ℕ). field_of x (at + until 9 (drop at l))) (number_decimal k h) ∙ ap (λ (x : ℕ). Some (k, at + x)) f

pair_spelled : (l : List ℕ) (at k v : ℕ) → drop at l ≡ decimal k ++ 9 ∷ decimal v → k < 2 ^ 64 → v < 2 ^ 64
    → pair_at l at ≡ Some (k, v)
pair_spelled l at k v e hk hv =
    ap (pair_from l) (field_spelled l at k (decimal v) e hk) ∙ ap (λ (x : List ℕ). pair_of k (spelled_by x)) behind
    ∙ ap (pair_of k) (number_decimal v hv)
  where
    behind : drop (past_tab (at + length (decimal k))) l ≡ decimal v
    behind =
        let f : past_tab (at + length (decimal k)) ≡ at + (length (decimal k) + 1) = omega arith in
        ap (λ (i : ℕ). drop i l) f ∙ sym (drop-drop (length (decimal k) + 1) at l)
        ∙ ap (drop (length (decimal k) + 1)) (e ∙ sym (append_snoc (decimal k) 9 (decimal v)))
        ∙ drop_at (decimal k ++ 9 ∷ []) (decimal v) (length (decimal k) + 1) (length-append (decimal k) (9 ∷ []))

spelled_read : (c : Command) → InRange c → parse_of (spelling c) ≡ Some c
unfolding parse_of begins
spelled_read (Put k v) h =
    ap (of_pair Put) (pair_spelled (put_word ++ 9 ∷ (decimal k ++ 9 ∷ decimal v)) 4 k v refl h.0 h.1)
spelled_read (Set k v) h =
    ap (of_pair Set) (pair_spelled (set_word ++ 9 ∷ (decimal k ++ 9 ∷ decimal v)) 4 k v refl h.0 h.1)
spelled_read (Del k) h = ap (of_key Del) (number_decimal k h)
spelled_read (Get k) h = ap (of_key Get) (number_decimal k h)
spelled_read Listing h = refl

-- ---- what is read is spelled so

number_cases : (P : Option ℕ → Type 0) (l : List ℕ)
    → ((n : ℕ) → l ≡ decimal n → n < 2 ^ 64 → P (Some n)) → P None → P (spelled_by l)
number_cases P l is not = go (spelled_by l) refl
  where
    go : (r : Option ℕ) → spelled_by l ≡ r → P r
    go (Some n) e = let q = number_read l n e in is n q.0 q.1
    go None e = not

until_found : (b : ℕ) (l : List ℕ) → until b l < length l → get_or l (until b l) 0 ≡ b
unfolding until
until_found b [] h = absurd (not-suc-le-zero h)
until_found b (x ∷ l) h = go (eqb x b) refl h (until_found b l)
  where
    go : (t : Bool) → eqb x b ≡ t → cond t 0 (suc (until b l)) < suc (length l)
        → (until b l < length l → get_or l (until b l) 0 ≡ b) → get_or (x ∷ l) (cond t 0 (suc (until b l))) 0 ≡ b
    go true e h ih = eqb-true x b e
    go false e h ih = ih (omega arith)

pair_cases : (P : Option (ℕ × ℕ) → Type 0) (l : List ℕ) (at : ℕ)
    → ((k v : ℕ) → drop at l ≡ decimal k ++ 9 ∷ decimal v → k < 2 ^ 64 → v < 2 ^ 64 → P (Some (k, v))) → P None
    → P (pair_at l at)
pair_cases P l at both_read not =
    number_cases (λ n. P (pair_from l (field_of n (at + e)))) (take e r)
    (λ k ek hk. number_cases (λ n. P (pair_of k n)) (drop (past_tab (at + e)) l)
    (λ v ev hv. both_read k v (joined k v ek ev) hk hv) not) not
  where
    r : List ℕ
    r = drop at l

    e : ℕ
    e = until 9 r

    joined : (k v : ℕ) → take e r ≡ decimal k → drop (past_tab (at + e)) l ≡ decimal v → r ≡ decimal k ++ 9 ∷ decimal v
    joined k v ek ev =
        let left = length-drop (past_tab (at + e)) l in
        let inside : e < length r = omega (arith, left, length-drop at l, ap length ev, decimal_some v) in
        let f : at + suc e ≡ past_tab (at + e) = omega arith in
        cc (split_at r e 0 inside, until_found 9 r inside, drop-drop (suc e) at l, ap (λ (i : ℕ). drop i l) f)

begins_read : (w l : List ℕ) → begins w l ≡ true → l ≡ w ++ drop (length w) l
unfolding begins
begins_read [] l e = refl
begins_read (a ∷ w) [] e = differ (sym e)
begins_read (a ∷ w) (b ∷ l) e = go (eqb b a) refl e (begins_read w l)
  where
    go : (t : Bool) → eqb b a ≡ t → both t (begins w l) ≡ true → (begins w l ≡ true → l ≡ w ++ drop (length w) l)
        → b ∷ l ≡ a ∷ (w ++ drop (length w) l)
    go true eb e ih = cc (eqb-true b a eb, ih e)
    go false eb e ih = differ (sym e)

-- c is no command, or is the one that the line spells
Spelled : List ℕ → Option Command → Type 0
Spelled line None = Unit {0}
Spelled line (Some c) = (spelling c ≡ line) × InRange c

read_spelled : (line : List ℕ) → Spelled line (parse_of line)
unfolding parse_of Spelled
read_spelled line =
    test (begins (tabbed put_word) line) _ _
    (λ b. pair_cases (λ p. Spelled line (of_pair Put p)) line 4 (λ k v e hk hv. (whole (tabbed put_word) b e, (hk, hv))) tt)
    (λ _. test (begins (tabbed set_word) line) _ _
    (λ b. pair_cases (λ p. Spelled line (of_pair Set p)) line 4 (λ k v e hk hv. (whole (tabbed set_word) b e, (hk, hv))) tt)
    (λ _. test (begins (tabbed del_word) line) _ _
    (λ b. number_cases (λ n. Spelled line (of_key Del n)) (drop 4 line) (λ k e hk. (whole (tabbed del_word) b e, hk)) tt)
    (λ _. test (begins (tabbed get_word) line) _ _
    (λ b. number_cases (λ n. Spelled line (of_key Get n)) (drop 4 line) (λ k e hk. (whole (tabbed get_word) b e, hk)) tt)
    (λ _. test (eqb (length line) 4) _ _
    (λ four. test (begins list_word line) _ _ (λ b. (whole list_word b (drop_all four), tt)) (λ _. tt)) (λ _. tt)))))
  where
    test : (t : Bool) (a b : Option Command) → (t ≡ true → Spelled line a) → (t ≡ false → Spelled line b)
        → Spelled line (cond t a b)
    test t a b = by_test (λ x. Spelled line (cond x a b)) t

    whole : (w : List ℕ) {m : List ℕ} → begins w line ≡ true → drop (length w) line ≡ m → w ++ m ≡ line
    whole w b e = sym (begins_read w line b ∙ ap (λ (x : List ℕ). w ++ x) e)

    drop_all : eqb (length line) 4 ≡ true → drop 4 line ≡ []
    drop_all four = let h : length line ≤ 4 = omega (arith, eqb-true (length line) 4 four) in drop_of_length-le line h

-- a line is read as a command exactly when its bytes are the command's spelling
pub exactly : (line : List ℕ) (c : Command) → (parse_of line ≡ Some c) ↔ ((spelling c ≡ line) × InRange c)
unfolding Spelled
exactly line c = (
  λ e. subst (Spelled line) e (read_spelled line),
  λ s. subst (λ (x : List ℕ). parse_of x ≡ Some c) s.0 (spelled_read c s.1),
)

-- "Anything else .. is malformed": a line is malformed, read as no command, exactly when it is no command's spelling
pub malformed : (line : List ℕ) → (parse_of line ≡ None) ↔ ((c : Command) → spelling c ≡ line → InRange c → ⊥)
unfolding Spelled
malformed line = (λ e c s h. let some = (exactly line c).1 (s, h) in never cc, λ f. other f (parse_of line) (read_spelled line))
  where
    other : ((c : Command) → spelling c ≡ line → InRange c → ⊥) → (r : Option Command) → Spelled line r → r ≡ None
    other f None s = refl
    other f (Some c) s = absurd (f c s.0 s.1)
