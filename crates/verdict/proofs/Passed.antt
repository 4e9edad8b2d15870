-- A leaf in which no fault is found, and one in which none is.
use Rattle.std.specs.Prelude.{◌≡◌, refl, Bool, true, false, not, ℕ, ◌≤◌, leb, eqb}
use Rattle.std.proofs.Common.{arith, leb-false, eqb-true, eq-eqb}
use Rattle.std.proofs.lemmas.Bool.{lt-leb}
use Rattle.words.specs.Below.{count_below}
use Rattle.leaf.specs.Leaf.{Leaf}
use Rattle.leaf.specs.Search.{count}
use Rattle.leaf.specs.Tally.{wrong_at, at_most, twins}
use Rattle.survey.specs.Walk.{State, first_fault, again_by, bare_by, low_by, fault_of}
use Rattle.verdict.specs.Passed.{Passed}

pub fault_passed : (L : Leaf) (N : ℕ) (st : State) → fault_of L N st ≡ 0 → Passed L N st
unfolding fault_of
fault_passed L N st h =
    go (leb N L.next) (again_by st L.next) L.lock (bare_by st (count L)) (eqb (count_below (wrong_at L) L.size) 0) (twins L)
    (low_by st (count_below (at_most L st.last) L.size)) refl refl refl refl refl refl refl h
  where
    go : (a b c d e f g : Bool) → leb N L.next ≡ a → again_by st L.next ≡ b → L.lock ≡ c → bare_by st (count L) ≡ d
        → eqb (count_below (wrong_at L) L.size) 0 ≡ e → twins L ≡ f → low_by st (count_below (at_most L st.last) L.size) ≡ g
        → first_fault a b c d (not e) f g ≡ 0 → Passed L N st
    go true b c d e f g p q r s t u v z = absurd (omega arith)
    go false true c d e f g p q r s t u v z = absurd (omega arith)
    go false false true d e f g p q r s t u v z = absurd (omega arith)
    go false false false true e f g p q r s t u v z = absurd (omega arith)
    go false false false false false f g p q r s t u v z = absurd (omega arith)
    go false false false false true true g p q r s t u v z = absurd (omega arith)
    go false false false false true false true p q r s t u v z = absurd (omega arith)
    go false false false false true false false p q r s t u v z = record {
      near = leb-false N L.next p;
      new = q;
      unlocked = r;
      full = s;
      prints = eqb-true (count_below (wrong_at L) L.size) 0 t;
      alone = u;
      above = v;
    }

pub passed_fault : (L : Leaf) (N : ℕ) (st : State) → Passed L N st → fault_of L N st ≡ 0
unfolding fault_of
passed_fault L N st p = λ i.
    first_fault (lt-leb N L.next p.near i) (p.new i) (p.unlocked i) (p.full i)
    (not (eq-eqb (count_below (wrong_at L) L.size) 0 p.prints i)) (p.alone i) (p.above i)

-- a fault is a number of its own
pub fault_number : (L : Leaf) (N : ℕ) (st : State) → (fault_of L N st ≡ 0 → ⊥) → 31 ≤ fault_of L N st
unfolding fault_of
fault_number L N st ne =
    go (leb N L.next) (again_by st L.next) L.lock (bare_by st (count L)) (not (eqb (count_below (wrong_at L) L.size) 0)) (twins L)
    (low_by st (count_below (at_most L st.last) L.size)) ne
  where
    go : (a b c d e f g : Bool) → (first_fault a b c d e f g ≡ 0 → ⊥) → 31 ≤ first_fault a b c d e f g
    go true b c d e f g h = omega arith
    go false true c d e f g h = omega arith
    go false false true d e f g h = omega arith
    go false false false true e f g h = omega arith
    go false false false false true f g h = omega arith
    go false false false false false true g h = omega arith
    go false false false false false false true h = omega arith
    go false false false false false false false h = absurd (h refl)
