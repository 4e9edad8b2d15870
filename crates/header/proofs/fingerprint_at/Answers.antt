use Rattle.std.proofs.Common.{◌∙◌, sym, refl, arith, div-one}
use Rattle.words.specs.Words.{word_at}
use Rattle.header.proofs.HeaderCode.{mix_start, mix_byte, mix_end}
use Rattle.header.proofs.fingerprint_at.Goals as goal

pub loop-i-init : goal.loop-i-init
loop-i-init c = rw (div-one (word_at c.args.bytes.now c.args.place)) (mix_start _)

pub loop-i-preserved : goal.loop-i-preserved
loop-i-preserved c =
    let l = c.loop-i in
    mix_byte c.args.bytes.now c.args.place l.i l.mix _ (λ i. omega (arith, c.type_inv.bytes i)) (omega arith) refl ∙ l.invariant

pub returns : goal.returns
returns c = sym (mix_end c.loop-i.mix _ c.loop-i.i (omega arith)) ∙ c.loop-i.invariant
