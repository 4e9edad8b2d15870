-- The C interface and the bench program: two results that a contract allows are equal, as `Unique` has it for the calls below them.
use Rattle.std.specs.Prelude.{◌≡◌, List, ℕ}
use Rattle.std.proofs.Common.{sym, ◌∙◌}
use Rattle.machine.specs.Taking.{Outcome as Taken, run_of, cut_of}
use Rattle.writing.specs.Writing.{Outcome, put_of, set_of, del_of}
use Rattle.told.specs.declared.making.HutMade.{HutMade}
use Rattle.perform.specs.Perform.{text_of, Performed, Done}
use Rattle.demands.specs.Calls.{Asked, find, listing, recovery, put, set, del, run, cut}
use Rattle.demands.proofs.Unique.{one_answer}
use Rattle.demands.specs.UniqueOutside.{MadeAs, Outside, OutsideResult, TakenAs}

-- ---- THE STATEMENT

one_made : (o : Outcome) (r s : HutMade × List ℕ) → MadeAs o r → MadeAs o s → r ≡ s
one_made o r s p q =
    let e = p ∙ sym q in
    λ i. (
      record { answer = (e i).answer; steps = (e i).steps; line_writes = (e i).lines; word_writes = (e i).words },
      (e i).list,
    )

one_taken : (o : Taken) (r s : ℕ × List ℕ) → TakenAs o r → TakenAs o s → r ≡ s
one_taken o r s p q = λ i. ((p.0 ∙ sym q.0) i, (p.1 ∙ sym q.1) i)

pub one_outside : (asked : Asked) (r s : OutsideResult asked) → Outside asked r → Outside asked s → r ≡ s
one_outside (find image key) r s p q =
    let e = p ∙ sym q in λ i. record { answer = (e i).answer; value = (e i).value }
one_outside (listing image from keys values) r s p q =
    let e = p ∙ sym q in λ i. (record { answer = (e i).told.answer; count = (e i).told.count }, (e i).keys, (e i).values)
one_outside (recovery image smallest numbers) r s p q =
    let e = p ∙ sym q in
    λ i. (
      record { answer = (e i).told.answer; leaves = (e i).told.leaves; entries = (e i).told.entries },
      (e i).smallest,
      (e i).blocks,
    )
one_outside (put image list key value) r s p q = one_made (put_of image list key value) r s p q
one_outside (set image list key value) r s p q = one_made (set_of image list key value) r s p q
one_outside (del image list key) r s p q = one_made (del_of image list key) r s p q
one_outside (run image list n) r s p q = one_taken (run_of image list n) r s p q
one_outside (cut image list n arrivals) r s p q = one_taken (cut_of image list n arrivals) r s p q

-- A command of the bench program done: the image, the buffer and the number of bytes.
pub one_done : (o : Performed) (old : List ℕ) (r s : List ℕ × (List ℕ × ℕ)) → Done o r.0 old r.1.0 r.1.1
    → Done o s.0 old s.1.0 s.1.1 → r ≡ s
one_done o old r s p q =
    λ i. ((p.0 ∙ sym q.0) i, one_answer old (text_of o.printed) r.1 s.1 p.1 q.1 i)
