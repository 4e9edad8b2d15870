use Rattle.std.proofs.Common.{sym, ◌∙◌, arith}
use Rattle.survey.specs.Marks.{out_found, out_above, out_missing}
use Rattle.survey.proofs.marks.Marks.lowest_out.Goals as goal

pub returns-then-block-n : goal.returns-then-block-n
returns-then-block-n c =
    sym (out_found c.args.self.words c.args.n (omega arith) c.in_ok-block.block c.in_ok-block.ensures (omega arith))

pub returns-else-block-n : goal.returns-else-block-n
returns-else-block-n c =
    sym (out_above c.args.self.words c.args.n (omega arith) c.in_ok-block.block c.in_ok-block.ensures (omega arith))

pub returns-in_err-block : goal.returns-in_err-block
returns-in_err-block c =
    c.from_residual.ensures ∙ sym (out_missing c.args.self.words c.args.n (omega arith) c.in_err-block.ensures)
