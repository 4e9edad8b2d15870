-- "P1 to P10 are proved by one statement over a table of cases": document 01's "Bench cases".
use Rattle.std.specs.Prelude.{◌≡◌, refl, true, List, [], ◌∷◌, ℕ, eqb}
use Rattle.std.proofs.Common.{sym, eqb-true}
use Rattle.words.specs.Bools.{both_true, differ}
use Rattle.demands.specs.Computing.{computing}
use Rattle.demands.specs.Cases.{Case, Every, Row, State, Tells, left, start, table, told}
use Rattle.std.specs.Prelude.{◌≡◌, Bool, true, false, List, [], ◌∷◌, ℕ, eqb}
use Rattle.words.specs.Bools.{both}

-- ---- the table's cases pass, since a test of them all computes to true

abbrev same : List ℕ → List ℕ → Bool
same [] [] = true
same [] (y ∷ ys) = false
same (x ∷ xs) [] = false
same (x ∷ xs) (y ∷ ys) = both (eqb x y) (same xs ys)

abbrev tells : List Row → State → Bool
tells [] s = true
tells (r ∷ rs) s = both (same (told r.act s) r.tells) (tells rs (left r.act s))

abbrev every : List Case → Bool
every [] = true
every (c ∷ cs) = both (tells c.rows (start c)) (every cs)

computed : every table ≡ true
unfolding computing
computed = refl

same_is : (xs ys : List ℕ) → same xs ys ≡ true → xs ≡ ys
same_is [] [] e = refl
same_is [] (y ∷ ys) e = differ (sym e)
same_is (x ∷ xs) [] e = differ (sym e)
same_is (x ∷ xs) (y ∷ ys) e =
    let p = both_true (eqb x y) (same xs ys) e in λ i. eqb-true x y p.0 i ∷ same_is xs ys p.1 i

tells_is : (rs : List Row) (s : State) → tells rs s ≡ true → Tells rs s
tells_is [] s e = tt
tells_is (r ∷ rs) s e =
    let p = both_true (same (told r.act s) r.tells) (tells rs (left r.act s)) e in
    (same_is (told r.act s) r.tells p.0, tells_is rs (left r.act s) p.1)

every_is : (cs : List Case) → every cs ≡ true → Every cs
every_is [] e = tt
every_is (c ∷ cs) e =
    let p = both_true (tells c.rows (start c)) (every cs) e in (tells_is c.rows (start c) p.0, every_is cs p.1)

-- THE STATEMENT
pub cases : Every table
cases = every_is table computed
