use Rattle.std.proofs.Common.{arith, rules, refl, sym, ◌∙◌, zero-add}
use Rattle.header.specs.Header.{head_at}
use Rattle.header.proofs.HeaderLaws.{fingerprint_byte}
use Rattle.leaf.proofs.SearchSteps.{in_fp}
use Rattle.leaf.proofs.tally.print_at.Goals as goal

pub returns : goal.returns
returns c =
    let l = c.bytes.result.now in
    rw (← c.bytes.ensures.0)
    (sym (fingerprint_byte l 0 c.args.s (λ i. search rules) (omega arith) ∙ rw (zero-add, c.number.ensures.0))
    ∙ in_fp l (head_at l 0) refl c.args.s)
