-- `zip_turn` says which pair a turn writes, `zip_end` that at the end all are written.
use Rattle.std.proofs.Common.{◌≡◌, ◌∷◌, [], ℕ, length, refl, arith, ap₂, sym, subst}
use Rattle.std.proofs.lemmas.List.{length_push}
use Rattle.std.proofs.lemmas.Slice.Zip.{zip_turn, zip_end}
use Rattle.perform.specs.Perform.{line_of, text_of}
use Rattle.perform.specs.Printing.{Stored, rows_to, row_stored, stored_written}
use Rattle.perform.proofs.answer.pair_lines.Goals as goal

pub loop-key-init : goal.loop-key-init
unfolding rows_to text_of
loop-key-init c = record { stored = (omega arith, refl); short = omega arith }

pub loop-key-preserved : goal.loop-key-preserved
loop-key-preserved c =
    let ks = c.args.keys.now in
    let vs = c.args.values.now in
    let n = length c.loop-key.yielded in
    let t = zip_turn ks vs c.loop-key.yielded _ _ c.next.new.self _ (cc) (cc) c.loop-key.yielded_by _ c.in-Some.is c.next.ensures.steps in
    let more = length_push c.loop-key.yielded (c.in-Some.key, c.in-Some.value) in
    let pair =
    ap₂ (λ (k v : ℕ). Stored c.loop-key.buf c.loop-key.end (line_of (k ∷ v ∷ [])) c.write_line-end.new.buf c.write_line-end.result)
    (t.2 0) (t.3 0) in
    let next = row_stored c.args.buf.now ks vs n _ _ _ _ c.loop-key.invariant.stored
    (subst (λ x. x) pair c.write_line-end.ensures.stored) in
    record {
      stored = subst (λ (i : ℕ). Stored c.args.buf.now 0 (text_of (rows_to i ks vs)) c.write_line-end.new.buf c.write_line-end.result) (sym more) next;
      short = omega arith;
    }

pub returns-clause-written : goal.returns-clause-written
returns-clause-written c =
    let ks = c.args.keys.now in
    let vs = c.args.values.now in
    let all = zip_end ks vs c.loop-key.yielded _ _ c.next.new.self _ (cc) (cc) c.loop-key.yielded_by c.in-None.is c.next.ensures.steps in
    let whole : length c.loop-key.yielded ≡ length ks = omega arith in
    (stored_written c.args.buf.now _ _ _
    (subst (λ (i : ℕ). Stored c.args.buf.now 0 (text_of (rows_to i ks vs)) c.loop-key.buf c.loop-key.end) whole c.loop-key.invariant.stored)
    (omega arith)).0
