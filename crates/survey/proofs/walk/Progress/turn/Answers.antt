use Rattle.std.proofs.Common.{◌∙◌, ap}
use Rattle.std.specs.Prelude.{set}
use Rattle.leaf.specs.Leaf.{Leaf}
use Rattle.leaf.specs.Search.{smallest_of}
use Rattle.survey.specs.Walk.{state_in, judged}
use Rattle.survey.proofs.walk.Progress.turn.Goals as goal

pub returns : goal.returns
returns c =
    let a = c.args in
    let w = a.self.now in
    let part = c.page_of.ensures.leaf in (
      c.judge.ensures.0 ∙ ap (λ (L : Leaf). judged L a.n a.key (state_in w a.met.now)) part,
      c.judge.ensures.1 ∙ ap (λ (L : Leaf). set a.leasts.now w.leaves (smallest_of L)) part,
      c.judge.ensures.2,
    )
