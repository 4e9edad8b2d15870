-- "Each public call's contract determines the answer, the counts and each byte of each lent buffer, for all inputs, refused ones
-- too; prove that two results allowed by it are equal."
use Rattle.std.specs.Prelude.{◌≡◌, refl, List, ◌++◌, ℕ, drop, Option, Result as Answered, Ok, Err}
use Rattle.std.proofs.Common.{sym, ap, ◌∙◌}
use Rattle.steps.specs.declared.refusal.Refusal.{Refusal}
use Rattle.machine.specs.Taking.{ran_as}
use Rattle.index.specs.declared.recovery.Recovered.{Recovered}
use Rattle.index.specs.Reading.{Told, found_as, Counted, listed_as, Listing, listing_is, Sizes, recovered_as, Recovery, recovery_is}
use Rattle.writing.specs.declared.Made.{Made}
use Rattle.writing.specs.Writing.{Outcome, made_as}
use Rattle.command.specs.declared.Command.{Command}
use Rattle.command.specs.Reading.{parse_of, line_at}
use Rattle.perform.specs.Perform.{Written}
use Rattle.demands.specs.Calls.{Asked, find, listing, recovery, put, set, del, run, cut, Result, Allowed}
use Rattle.demands.proofs.Numbers.{answered_from, refused_again}

-- ---- a way of telling from which the thing told can be had again is the same for no two things

abbrev Again : {R T : Type 0} → (R → T) → Type 0
Again {R} {T} shown = (seen : T → R) × ((r : R) → seen (shown r) ≡ r)

same : {R T : Type 0} (shown : R → T) → Again shown → (a b : R) → shown a ≡ shown b → a ≡ b
same shown g a b e = sym (g.1 a) ∙ ap g.0 e ∙ g.1 b

abbrev found_from : Told → Answered ℕ Refusal
found_from t = answered_from t.answer t.value

found_again : (r : Answered ℕ Refusal) → found_from (found_as r) ≡ r
found_again (Ok v) = refl
found_again (Err r) = refused_again _ r

abbrev listed_from : Counted → Answered ℕ Refusal
listed_from t = answered_from t.answer t.count

listed_again : (r : Answered ℕ Refusal) → listed_from (listed_as r) ≡ r
listed_again (Ok m) = refl
listed_again (Err r) = refused_again _ r

abbrev recovered_from : Sizes → Answered Recovered Refusal
recovered_from t = answered_from t.answer (record { leaves = t.leaves; entries = t.entries })

recovered_again : (r : Answered Recovered Refusal) → recovered_from (recovered_as r) ≡ r
recovered_again (Ok r) = refl
recovered_again (Err r) = refused_again _ r

abbrev made_from : Outcome → Answered Made Refusal
made_from o =
    answered_from o.answer
    (record { steps = o.steps; line_writes = record { 0 = o.lines }; word_writes = record { 0 = o.words } })

made_again : (r : Answered Made Refusal) (list : List ℕ) → made_from (made_as r list) ≡ r
made_again (Ok m) list = refl
made_again (Err r) list = refused_again _ r

made_list : (r : Answered Made Refusal) (list : List ℕ) → (made_as r list).list ≡ list
made_list (Ok m) list = refl
made_list (Err r) list = refl

made_same : (r s : Answered Made Refusal × List ℕ) → made_as r.0 r.1 ≡ made_as s.0 s.1 → r ≡ s
made_same =
    same (λ r. made_as r.0 r.1)
    ((λ o. (made_from o, o.list)), λ r. λ i. (made_again r.0 r.1 i, made_list r.0 r.1 i))

abbrev ran_from : ℕ → Answered Unit Refusal
ran_from n = answered_from n tt

ran_again : (r : Answered Unit Refusal) → ran_from (ran_as r) ≡ r
ran_again (Ok _) = refl
ran_again (Err r) = refused_again _ r

ran_same : (r s : Answered Unit Refusal × List ℕ) → ran_as r.0 ≡ ran_as s.0 → r.1 ≡ s.1 → r ≡ s
ran_same r s e image = λ i. (same ran_as (ran_from, ran_again) r.0 s.0 e i, image i)

-- ---- THE STATEMENT

pub one_result : (asked : Asked) (r s : Result asked) → Allowed asked r → Allowed asked s → r ≡ s
one_result (find image key) r s p q = same found_as (found_from, found_again) r s (p ∙ sym q)
one_result (listing image from keys values) r s p q =
    same (λ (x : Answered ℕ Refusal × List ℕ × List ℕ). listing_is (listed_as x.0) x.1 x.2)
    ((λ (o : Listing). (listed_from o.told, o.keys, o.values)), λ x. λ i. (listed_again x.0 i, x.1, x.2)) r s (p ∙ sym q)
one_result (recovery image smallest numbers) r s p q =
    same (λ (x : Answered Recovered Refusal × List ℕ × List ℕ). recovery_is (recovered_as x.0) x.1 x.2)
    ((λ (o : Recovery). (recovered_from o.told, o.smallest, o.blocks)), λ x. λ i. (recovered_again x.0 i, x.1, x.2)) r s
    (p ∙ sym q)
one_result (put image list key value) r s p q = made_same r s (p ∙ sym q)
one_result (set image list key value) r s p q = made_same r s (p ∙ sym q)
one_result (del image list key) r s p q = made_same r s (p ∙ sym q)
one_result (run image list n) r s p q = ran_same r s (p.0 ∙ sym q.0) (p.1 ∙ sym q.1)
one_result (cut image list n arrivals) r s p q = ran_same r s (p.0 ∙ sym q.0) (p.1 ∙ sym q.1)

-- Reading a line of the bench program: a contract of the form `r ≡ ..` allows one result as it stands.
pub one_command : (line : List ℕ) (r s : Option Command) → r ≡ parse_of line → s ≡ parse_of line → r ≡ s
one_command line r s p q = p ∙ sym q

pub one_line_lem : (input : List ℕ) (at : ℕ) (r s : Option (Option Command × ℕ)) → r ≡ line_at input at → s ≡ line_at input at → r ≡ s
one_line_lem input at r s p q = p ∙ sym q

-- Writing one: the line, its length, and what stands behind it.
pub one_answer : (old line : List ℕ) (r s : List ℕ × ℕ) → Written old line r.0 r.1 → Written old line s.0 s.1 → r ≡ s
one_answer old line r s p q =
    let n = p.0 ∙ sym q.0 in λ i. ((p.1 ∙ ap (λ (k : ℕ). line ++ drop k old) n ∙ sym q.1) i, n i)
