use Rattle.std.proofs.Common.{arith, sym, ◌∙◌}
use Rattle.header.specs.Header.{bits_of}
use Rattle.header.proofs.HeaderLaws.{alt_lt}
use Rattle.leaf.proofs.SearchSteps.{in_next}
use Rattle.leaf.proofs.search.next_of.Goals as goal

pub returns-then-alt-eq0 : goal.returns-then-alt-eq0
returns-then-alt-eq0 c =
    rw (c.word_at.ensures, c.bytes.ensures.0)
    (in_next _ _ c.head.ensures 0 240 (sym c.if-alt-eq0.true ∙ c.alt.ensures) (omega arith))

pub returns-else-alt-eq0 : goal.returns-else-alt-eq0
returns-else-alt-eq0 c =
    rw (c.word_at-else-alt-eq0.ensures, c.bytes-else-alt-eq0.ensures.0)
    (in_next _ _ c.head.ensures 1 248 (omega (arith, c.alt.ensures, alt_lt (bits_of c.head.result))) (omega arith))
