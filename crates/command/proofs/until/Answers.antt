-- `position` gives the first place, and `position_until` says that in the words of `until`.
use Rattle.std.proofs.Common.{length, ap, ◌∙◌, rules, tests, eqb}
use Rattle.std.proofs.lemmas.Iterator.{YieldsList-from_slice}
use Rattle.std.proofs.lemmas.Iterator.Search.{position_from_yields_List}
use Rattle.std.specs.Option.{unwrap_or}
use Rattle.command.proofs.ReadingLaws.{position_until}
use Rattle.command.proofs.until.Goals as goal

pub returns-clause-value : goal.returns-clause-value
returns-clause-value c =
    let b = c.args.sought in
    let l = c.args.bytes.now in
    let found =
    position_from_yields_List (λ x. eqb x b) _ _ c.position.result c.position.ensures.ran (YieldsList-from_slice l cc)
    (λ x t q k. search (rules, tests)) in
    c.unwrap_or.ensures ∙ ap (λ r. unwrap_or r (length l)) found ∙ position_until b l
