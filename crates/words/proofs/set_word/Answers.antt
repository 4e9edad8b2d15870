-- The eight stores are those of `store_at`, the first at `place + 0`.
use Rattle.std.proofs.Common.{add-zero, div-one}
use Rattle.words.specs.Words.{store_at}
use Rattle.words.proofs.set_word.Goals as goal

pub returns : goal.returns
unfolding store_at
returns c = simp (add-zero, div-one)
