use Rattle.std.proofs.Common.{◌≡◌, ◌∙◌, ◌+◌, ◌/◌, length, ap, arith, ℕ}
use Rattle.words.specs.Words.{reads}
use Rattle.survey.specs.Walk.{State, stage_number}
use Rattle.survey.specs.Turns.{kept_start, kept_passed, kept_stop, kept_end, judged_goes, stage_stops}
use Rattle.survey.proofs.walk.survey_noting.Goals as goal

pub loop-init : goal.loop-init
loop-init c =
    let a = c.args in
    let e = c.begun-end.ensures in record {
      goes = ap (λ (st : State). st.stage) e;
      passed = ap (λ (st : State). st.leaves) e;
      kept = kept_start (reads a.image.now) (length a.image.now / 256) a.key _ a.leasts.now a.numbers.now (omega arith) e;
    }

pub returns-in_default : goal.returns-in_default
returns-in_default c =
    let w = reads c.args.image.now in
    let k = c.loop.invariant in
    let t = c.turn.ensures in
    let N = length c.args.image.now / 256 in
    kept_stop w N c.args.key _ _ _ _
    (kept_passed w N c.args.key c.loop.counter _ _ _ _ _ _ k.kept k.passed (omega arith) k.goes t.0 t.1 t.2)
    (stage_stops c.turn.new.self.stage c.in_default.not-GoesOn)

pub loop-preserved : goal.loop-preserved
loop-preserved c =
    let w = reads c.args.image.now in
    let k = c.loop.invariant in
    let t = c.turn.ensures in
    let goes : stage_number c.turn.new.self.stage ≡ 0 = ap stage_number c.in-GoesOn.is in record {
      goes = goes;
      passed = judged_goes _ _ _ _ _ t.0 goes ∙ ap (λ (n : ℕ). n + 1) k.passed;
      kept = kept_passed w (length c.args.image.now / 256) c.args.key c.loop.counter _ _ _ _ _ _ k.kept k.passed (omega arith) k.goes
          t.0 t.1 t.2;
    }

pub returns : goal.returns
returns c = kept_end (reads c.args.image.now) (length c.args.image.now / 256) c.args.key _ _ _ _ c.loop.invariant.kept (omega arith)
