use Rattle.std.proofs.Common.{◌∙◌, ◌≤◌, ℕ, length, ap, arith, length-take}
use Rattle.std.proofs.lemmas.Result.{err_from_is_err_and}
use Rattle.survey.specs.Walk.{State, state_of}
use Rattle.image.specs.Image.{blocks}
use Rattle.index.proofs.SoundTest.{long_enough, walk_sound, walk_unsound}
use Rattle.index.proofs.RecoveryLaws.{leaves_few, not_short, recovery_bad, recovery_short, recovery_unsound, recovery_done}
use Rattle.index.proofs.recovery.recovery.Goals as goal
use Rattle.index.proofs.recovery.recovery.Goals.{In_ok-w}

pub returns-in_err-check_image : goal.returns-in_err-check_image
returns-in_err-check_image c =
    let p = err_from_is_err_and c.from_residual.result c.from_residual.ensures.1 in
    rw (p.1, p.2, c.in_err-check_image.ensures.1)
    (recovery_bad c.args.image.now c.args.smallest.now c.args.blocks.now c.in_err-check_image.ensures.0)

pub returns-in_err-check_buffers : goal.returns-in_err-check_buffers
returns-in_err-check_buffers c =
    let p = err_from_is_err_and c.from_residual-in_err-check_buffers.result c.from_residual-in_err-check_buffers.ensures.1 in
    rw (p.1, p.2, c.in_err-check_buffers.ensures.1)
    (recovery_short c.args.image.now c.args.smallest.now c.args.blocks.now c.in_ok-check_image.ensures
    c.in_err-check_buffers.ensures.0)

pub survey_noting-requires : goal.survey_noting-requires
survey_noting-requires c = let z = long_enough c.args.image.now c.in_ok-check_image.ensures in (z.0, z.1)

pub returns-in_err-w : goal.returns-in_err-w
returns-in_err-w c =
    let l = c.args.image.now in
    let p = err_from_is_err_and c.from_residual-in_err-w.result c.from_residual-in_err-w.ensures.1 in
    rw (p.1, p.2, c.in_err-w.ensures.1)
    (recovery_unsound l c.args.smallest.now c.args.blocks.now c.in_ok-check_image.ensures c.in_ok-check_buffers.ensures
    (walk_unsound l 0 c.survey_noting.result c.survey_noting.ensures.0 c.in_err-w.ensures.0))

-- no more leaves than blocks, and so room for the notes of all
few : (c : In_ok-w) → (c.in_ok-w.w.end.leaves ≤ blocks c.args.image.now) × (c.in_ok-w.w.end.leaves ≤ 256)
few c =
    let told = ap (λ (st : State). st.leaves) (ap state_of c.in_ok-w.ensures.0 ∙ c.survey_noting.ensures.0) in
    let n = leaves_few c.args.image.now c.in_ok-check_image.ensures
    (walk_sound c.args.image.now 0 c.survey_noting.result c.survey_noting.ensures.0 c.in_ok-w.ensures.1) in
    (omega (arith, told, n.0), omega (arith, told, n.0, n.1))

pub slice_bounds-leasts-end : goal.slice_bounds-leasts-end
slice_bounds-leasts-end c = omega (arith, (few (goal.at.slice_bounds-leasts-end c).In_ok-w).1)

pub slice_bounds-copy_notes-end : goal.slice_bounds-copy_notes-end
slice_bounds-copy_notes-end c =
    omega (arith, (few (goal.at.slice_bounds-copy_notes-end c).In_ok-w).1, length-take {A = ℕ})

pub slice_bounds-numbers-end : goal.slice_bounds-numbers-end
slice_bounds-numbers-end c = omega (arith, (few (goal.at.slice_bounds-numbers-end c).In_ok-w).1)

pub slice_bounds-copy_notes-end-2 : goal.slice_bounds-copy_notes-end-2
slice_bounds-copy_notes-end-2 c =
    omega (arith, (few (goal.at.slice_bounds-copy_notes-end-2 c).In_ok-w).1, length-take {A = ℕ})

pub copy_notes-requires : goal.copy_notes-requires
copy_notes-requires c =
    let n = (few (goal.at.copy_notes-requires c).In_ok-w).0 in
    let room = not_short (blocks c.args.image.now) (length c.args.smallest.now) (length c.args.blocks.now) c.in_ok-check_buffers.ensures in
    let few = (few (goal.at.copy_notes-requires c).In_ok-w).1 in
    (omega (arith, few, length-take {A = ℕ}), omega (arith, n, room.0, length-take {A = ℕ}), omega (arith, n, room.1, length-take {A = ℕ}))

pub returns : goal.returns
returns c =
    let l = c.args.image.now in
    let told = ap state_of c.in_ok-w.ensures.0 ∙ c.survey_noting.ensures.0 in
    rw (c.copy_notes.ensures.keys, c.copy_notes.ensures.numbers)
    (recovery_done l c.args.smallest.now c.args.blocks.now c.in_ok-check_image.ensures c.in_ok-check_buffers.ensures
    (walk_sound l 0 c.survey_noting.result c.survey_noting.ensures.0 c.in_ok-w.ensures.1) _ _ _ _
    (ap (λ (st : State). st.leaves) told) (ap (λ (st : State). st.entries) told) c.survey_noting.ensures.1
    c.survey_noting.auto.leasts c.survey_noting.auto.numbers)
