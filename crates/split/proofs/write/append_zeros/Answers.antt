use Rattle.std.proofs.Common.{◌≡◌, arith}
use Rattle.split.proofs.write.append_zeros.Goals as goal

pub returns : goal.returns
returns c = let e : c.loop-i.i ≡ 12 = omega arith in rw e at c.loop-i.invariant
