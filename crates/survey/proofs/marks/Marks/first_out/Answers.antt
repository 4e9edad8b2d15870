use Rattle.std.proofs.Common.{arith}
use Rattle.survey.specs.Marks.{out_here, out_next}
use Rattle.survey.proofs.marks.Marks.first_out.Goals as goal

pub returns-in-Some : goal.returns-in-Some
returns-in-Some c = out_here c.args.self.words c.loop-i.i c.loop-i.invariant c.in-Some.bit (omega arith) c.in-Some.ensures

pub loop-i-preserved : goal.loop-i-preserved
loop-i-preserved c = out_next c.args.self.words c.loop-i.i c.loop-i.invariant c.in_default.ensures
