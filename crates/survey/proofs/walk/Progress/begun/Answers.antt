use Rattle.std.proofs.Common.{◌∙◌, ap, ℕ}
use Rattle.std.specs.Prelude.{Bool, true}
use Rattle.words.specs.Update.{upd}
use Rattle.survey.specs.Walk.{start}
use Rattle.survey.proofs.walk.Progress.begun.Goals as goal

pub returns : goal.returns
returns c = ap (λ (f : ℕ → Bool). record start { met = f }) (c.mark.ensures ∙ ap (λ (f : ℕ → Bool). upd f 0 true) c.requires)
