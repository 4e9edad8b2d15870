use Rattle.std.proofs.Common.{arith}
use Rattle.header.proofs.HeaderCode.{first_taken}
use Rattle.header.proofs.Header.first_taken.Goals as goal

pub returns-then-s-lt14 : goal.returns-then-s-lt14
returns-then-s-lt14 c = rw c.new.ensures (first_taken c.args.self.low c.args.self.high (omega arith) c.in_ok-s.s c.in_ok-s.ensures (omega arith))
