use Rattle.std.proofs.Common.{◌∙◌, ap, arith}
use Rattle.std.proofs.lemmas.Result.{err_from_is_err_and}
use Rattle.survey.specs.Walk.{State, state_of}
use Rattle.image.specs.Image.{leaves}
use Rattle.index.proofs.SoundTest.{long_enough, noted_bounds, block_inside, walk_sound, walk_unsound}
use Rattle.index.proofs.FindLaws.{find_bad, find_unsound, find_slot}
use Rattle.index.proofs.find.find.Goals as goal

pub returns-in_err-check_image : goal.returns-in_err-check_image
returns-in_err-check_image c =
    let p = err_from_is_err_and c.from_residual.result c.from_residual.ensures.1 in
    rw (p.1, p.2, c.in_err-check_image.ensures.1)
    (find_bad c.args.image.now c.args.key c.in_err-check_image.ensures.0)

pub survey-requires : goal.survey-requires
survey-requires c = long_enough c.args.image.now c.in_ok-check_image.ensures

pub returns-in_err-w : goal.returns-in_err-w
returns-in_err-w c =
    let l = c.args.image.now in
    let p = err_from_is_err_and c.from_residual-in_err-w.result c.from_residual-in_err-w.ensures.1 in
    rw (p.1, p.2, c.in_err-w.ensures.1)
    (find_unsound l c.args.key c.in_ok-check_image.ensures
    (walk_unsound l c.args.key c.survey.result c.survey.ensures c.in_err-w.ensures.0))

pub page_of-requires : goal.page_of-requires
page_of-requires c =
    let l = c.args.image.now in
    let fine = c.in_ok-check_image.ensures in
    let told = ap state_of c.in_ok-w.ensures.0 ∙ c.survey.ensures in
    omega (
      arith,
      block_inside l c.in_ok-w.w.end.target fine (rw (ap (λ (st : State). st.target) told) (noted_bounds l c.args.key fine).target),
    )

pub returns : goal.returns
returns c =
    let l = c.args.image.now in
    let told = ap state_of c.in_ok-w.ensures.0 ∙ c.survey.ensures in
    rw c.find_leaf.ensures
    (find_slot l c.args.key c.in_ok-check_image.ensures
    (walk_sound l c.args.key c.survey.result c.survey.ensures c.in_ok-w.ensures.1) _
    (c.page_of.ensures.leaf ∙ ap (λ (st : State). leaves l st.target) told))
