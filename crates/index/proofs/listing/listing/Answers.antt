use Rattle.std.proofs.Common.{◌∙◌, ◌<◌, ℕ, sym, ap, subst, arith, length-take}
use Rattle.std.proofs.lemmas.Result.{err_from_is_err_and}
use Rattle.leaf.specs.Leaf.{Right}
use Rattle.survey.specs.Walk.{State, state_of}
use Rattle.image.specs.Chain.{All}
use Rattle.image.specs.Image.{blocks, leaves}
use Rattle.index.specs.Reading.{chain_from}
use Rattle.index.proofs.SoundTest.{long_enough, walk_sound, walk_unsound}
use Rattle.index.proofs.ListingLaws.{target_near, listing_bad, listing_unsound, listing_done}
use Rattle.index.proofs.listing.listing.Goals as goal

pub returns-in_err-check_image : goal.returns-in_err-check_image
returns-in_err-check_image c =
    let p = err_from_is_err_and c.from_residual.result c.from_residual.ensures.1 in
    rw (p.1, p.2, c.in_err-check_image.ensures.1)
    (listing_bad c.args.image.now c.args.from c.args.keys.now c.args.values.now c.in_err-check_image.ensures.0)

pub survey-requires : goal.survey-requires
survey-requires c = long_enough c.args.image.now c.in_ok-check_image.ensures

pub returns-in_err-w : goal.returns-in_err-w
returns-in_err-w c =
    let l = c.args.image.now in
    let p = err_from_is_err_and c.from_residual-in_err-w.result c.from_residual-in_err-w.ensures.1 in
    rw (p.1, p.2, c.in_err-w.ensures.1)
    (listing_unsound l c.args.from c.args.keys.now c.args.values.now c.in_ok-check_image.ensures
    (walk_unsound l c.args.from c.survey.result c.survey.ensures c.in_err-w.ensures.0))

pub list_chain-n-requires : goal.list_chain-n-requires
list_chain-n-requires c =
    let l = c.args.image.now in
    let told = ap state_of c.in_ok-w.ensures.0 ∙ c.survey.ensures in (
      omega arith,
      omega (arith, length-take {A = ℕ}, c.min-room.ensures),
      subst (λ (t : ℕ). All (λ b. (b < blocks l) × Right (leaves l b)) (chain_from (leaves l) (blocks l) t))
          (sym (ap (λ (st : State). st.target) told))
          (target_near l c.args.from c.in_ok-check_image.ensures
          (walk_sound l c.args.from c.survey.result c.survey.ensures c.in_ok-w.ensures.1)),
    )

pub returns : goal.returns
returns c =
    let l = c.args.image.now in
    let told = ap state_of c.in_ok-w.ensures.0 ∙ c.survey.ensures in
    listing_done l c.args.from c.args.keys.now c.args.values.now c.in_ok-check_image.ensures
    (walk_sound l c.args.from c.survey.result c.survey.ensures c.in_ok-w.ensures.1)
    c.min-room.result _ _ _ _ c.min-room.ensures (ap (λ (st : State). st.target) told) c.list_chain-n.ensures
