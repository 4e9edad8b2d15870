-- The refusals, for every call at once. "given exactly when"; "Order: 1, 2, 8, 3, 4, 5, 6 as they apply; for run and cut 1, 7,
-- 10. (..) An accepted call answers 0. A refusal tells 0 for every count and value and changes no buffer."
--
-- `Conditions` has each call's numbers in that order, with their sentences.
use Rattle.std.specs.Prelude.{◌≡◌, refl, Bool, true, false, cond, List, [], ◌∷◌, ◌≢◌, ℕ, ◌<◌, ltb, eqb, length}
use Rattle.std.proofs.Common.{sym, ap, ◌∙◌, inl, inr, arith, ltb-true, ne_eqb}
use Rattle.words.specs.Bools.{both_true, by_test, differ, not_so}
use Rattle.steps.specs.Refusals.{answer}
use Rattle.steps.proofs.Refusals.{row_passed}
use Rattle.steps.specs.declared.Step.{Step}
use Rattle.image.specs.Chain.{All}
use Rattle.machine.specs.Taking.{run_table, cut_table}
use Rattle.index.specs.Reading.{find_of, Listing, listing_of, counted, listing_is, Recovery, recovery_of, sizes, recovery_is}
use Rattle.index.specs.Reading.{find_table, listing_table, recovery_table}
use Rattle.std.specs.Prelude.{Result as Answered}
use Rattle.steps.specs.declared.refusal.Refusal.{Refusal}
use Rattle.writing.specs.declared.Made.{Made}
use Rattle.writing.specs.Writing.{Outcome, outcome, made_as, put_of, set_of, del_of, put_table, change_table}
use Rattle.demands.specs.Calls.{Asked, find, listing, recovery, put, set, del, run, cut, Result, Allowed}
use Rattle.demands.specs.Calls.{made, told, table}
use Rattle.demands.specs.Conditions.{Rows, conditions, Given, NoneGiven}
use Rattle.demands.proofs.Sentences.{Match}
use Rattle.demands.proofs.Sentences.{matched}
use Rattle.demands.specs.Demand1.{Demanded}
use Rattle.std.specs.Prelude.{◌≡◌, Bool, true, List, [], ◌∷◌, ◌≢◌, ℕ, ◌<◌, ltb}
use Rattle.words.specs.Bools.{both}
use Rattle.demands.specs.Calls.{Asked, Result}
use Rattle.demands.specs.Calls.{told, lent}
use Rattle.demands.specs.Conditions.{conditions, Given, NoneGiven}

-- ---- a table whose rows match the sentences

-- no row has the number 0
abbrev numbered : List (ℕ × Bool) → Bool
numbered [] = true
numbered (row ∷ rows) = both (ltb 0 row.0) (numbered rows)

given_of : (rows : List (ℕ × Bool)) (cs : Rows) → Match rows cs → (n : ℕ) → 0 < n → answer rows ≡ n → Given n cs
given_of [] [] m n h e = absurd (omega arith)
given_of [] (c ∷ cs) m n h e = absurd m
given_of (row ∷ rows) [] m n h e = absurd m
given_of (row ∷ rows) (c ∷ cs) m n h e =
    by_test (λ b. cond b row.0 (answer rows) ≡ n → Given n (c ∷ cs)) row.1
    (λ q z. inl (sym m.0 ∙ z, m.1.0 q))
    (λ q z. inr (λ y. differ (sym (m.1.1 y) ∙ q), given_of rows cs (m.2 q) n h z))
    e

-- a sentence that does not hold leaves the answer to the rows behind it
passed : (row : ℕ × Bool) (rows : List (ℕ × Bool)) → row.1 ≡ false → answer (row ∷ rows) ≡ answer rows
passed row rows q = ap (λ (b : Bool). cond b row.0 (answer rows)) q

gives : (rows : List (ℕ × Bool)) (cs : Rows) → Match rows cs → (n : ℕ) → Given n cs → answer rows ≡ n
gives [] [] m n g = absurd g
gives [] (c ∷ cs) m n g = absurd m
gives (row ∷ rows) [] m n g = absurd m
gives (row ∷ rows) (c ∷ cs) m n g =
    elim g [
      | inl x ↦ ap (λ (b : Bool). cond b row.0 (answer rows)) (m.1.1 x.1) ∙ m.0 ∙ x.0
      | inr x ↦ let q = not_so row.1 (λ e. x.0 (m.1.0 e)) in passed row rows q ∙ gives rows cs (m.2 q) n x.1
    ]

none_of : (rows : List (ℕ × Bool)) (cs : Rows) → Match rows cs → numbered rows ≡ true → answer rows ≡ 0 → NoneGiven cs
none_of [] [] m z e = tt
none_of [] (c ∷ cs) m z e = absurd m
none_of (row ∷ rows) [] m z e = absurd m
none_of (row ∷ rows) (c ∷ cs) m z e =
    let q = both_true (ltb 0 row.0) (numbered rows) z in
    let p = row_passed row.0 row.1 (answer rows) (ltb-true 0 row.0 q.0) e in
    (λ y. differ (sym (m.1.1 y) ∙ p.0), none_of rows cs (m.2 p.0) q.1 p.1)

none_gives : (rows : List (ℕ × Bool)) (cs : Rows) → Match rows cs → NoneGiven cs → answer rows ≡ 0
none_gives [] [] m g = refl
none_gives [] (c ∷ cs) m g = absurd m
none_gives (row ∷ rows) [] m g = absurd m
none_gives (row ∷ rows) (c ∷ cs) m g =
    let q = not_so row.1 (λ e. g.0 (m.1.0 e)) in passed row rows q ∙ none_gives rows cs (m.2 q) g.1

-- ---- each call answers by its table

all_numbered : (asked : Asked) → numbered (table asked) ≡ true
all_numbered (find image key) = refl
all_numbered (listing image from keys values) = refl
all_numbered (recovery image smallest numbers) = refl
all_numbered (put image list key value) = refl
all_numbered (set image list key value) = refl
all_numbered (del image list key) = refl
all_numbered (run image list n) = refl
all_numbered (cut image list n arrivals) = refl

-- an outcome that is one of two by whether the answer is 0
either : {A : Type 0} (number : A → ℕ) (n : ℕ) (x y : A) → number x ≡ n → number y ≡ n → number (cond (eqb n 0) x y) ≡ n
either number n x y p q = by_test (λ b. number (cond b x y) ≡ n) (eqb n 0) (λ e. p) (λ e. q)

other : {A : Type 0} (n : ℕ) (x y : A) → n ≢ 0 → cond (eqb n 0) x y ≡ y
other n x y ne = ap (λ (b : Bool). cond b x y) (ne_eqb n 0 ne)

pub answers : (asked : Asked) (r : Result asked) → Allowed asked r → (told asked r).number ≡ answer (table asked)
unfolding find_of listing_of recovery_of put_of set_of del_of
answers (find image key) r p = ap (λ t. t.answer) p
answers (listing image from keys values) r p =
    ap (λ (o : Listing). o.told.answer) p
    ∙ either (λ (o : Listing). o.told.answer) (answer (listing_table image)) _ _ refl refl
answers (recovery image smallest numbers) r p =
    ap (λ (o : Recovery). o.told.answer) p
    ∙ either (λ (o : Recovery). o.told.answer) (answer (recovery_table image smallest numbers)) _ _ refl refl
answers (put image list key value) r p = ap (λ (o : Outcome). o.answer) p
answers (set image list key value) r p = ap (λ (o : Outcome). o.answer) p
answers (del image list key) r p = ap (λ (o : Outcome). o.answer) p
answers (run image list n) r p = p.0
answers (cut image list n arrivals) r p = p.0

-- ---- a refused call tells and changes nothing

abbrev Nothing : (asked : Asked) → Result asked → Type 0
Nothing asked r = All (λ n. n ≡ 0) (told asked r).counts × ((told asked r).buffers ≡ lent asked)

made_nothing : (n : ℕ) (t : List Step) (list : List ℕ) (r : Answered Made Refusal × List ℕ) → made_as r.0 r.1 ≡ outcome n t list → n ≢ 0
    → All (λ n. n ≡ 0) (made r.0 r.1).counts × ((made r.0 r.1).buffers ≡ list ∷ [])
made_nothing n t list r p ne = (
  (
    ap (λ (o : Outcome). o.steps) p ∙ other n _ 0 ne,
    (ap (λ (o : Outcome). o.lines) p ∙ other n _ 0 ne, (ap (λ (o : Outcome). o.words) p ∙ other n _ 0 ne, tt)),
  ),
  ap (λ (l : List ℕ). l ∷ []) (ap (λ (o : Outcome). o.list) p ∙ other n _ list ne),
)

nothing : (asked : Asked) (r : Result asked) → Allowed asked r → answer (table asked) ≢ 0 → Nothing asked r
unfolding find_of listing_of recovery_of put_of set_of del_of
nothing (find image key) r p ne = ((ap (λ t. t.value) p ∙ other (answer (find_table image key)) _ 0 ne, tt), refl)
nothing (listing image from keys values) r p ne =
    let e = p ∙ other (answer (listing_table image)) _ (listing_is (counted (answer (listing_table image)) 0) keys values) ne in
    ((ap (λ (o : Listing). o.told.count) e, tt), ap (λ (o : Listing). o.keys ∷ o.values ∷ []) e)
nothing (recovery image smallest numbers) r p ne =
    let n = answer (recovery_table image smallest numbers) in
    let e = p ∙ other n _ (recovery_is (sizes n 0 0) smallest numbers) ne in (
      (ap (λ (o : Recovery). o.told.leaves) e, (ap (λ (o : Recovery). o.told.entries) e, tt)),
      ap (λ (o : Recovery). o.smallest ∷ o.blocks ∷ []) e,
    )
nothing (put image list key value) r p ne = made_nothing (answer (put_table image list key)) _ list r p ne
nothing (set image list key value) r p ne = made_nothing (answer (change_table image list key)) _ list r p ne
nothing (del image list key) r p ne = made_nothing (answer (change_table image list key)) _ list r p ne
nothing (run image list n) r p ne =
    (tt, ap (λ (l : List ℕ). l ∷ []) (p.1 ∙ other (answer (run_table (length image) list n)) _ image ne))
nothing (cut image list n arrivals) r p ne =
    (tt, ap (λ (l : List ℕ). l ∷ []) (p.1 ∙ other (answer (cut_table (length image) list n arrivals)) _ image ne))

-- ---- THE DEMAND

pub demand1 : (asked : Asked) (r : Result asked) → Allowed asked r → Demanded asked r
demand1 asked r p =
    let e = answers asked r p in
    record {
      refused = λ n h. (
        λ z. given_of (table asked) (conditions asked) (matched asked) n h (sym e ∙ z),
        λ g. e ∙ gives (table asked) (conditions asked) (matched asked) n g,
      );
      accepted = (
        λ z. none_of (table asked) (conditions asked) (matched asked) (all_numbered asked) (sym e ∙ z),
        λ g. e ∙ none_gives (table asked) (conditions asked) (matched asked) g,
      );
      nothing = λ ne. nothing asked r p (λ z. ne (e ∙ z));
    }
