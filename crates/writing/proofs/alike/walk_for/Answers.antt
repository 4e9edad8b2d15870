use Rattle.std.proofs.Common.{rules}
use Rattle.index.proofs.SoundTest.{long_enough}
use Rattle.writing.proofs.AlikeLaws.{walk_judged}
use Rattle.writing.proofs.alike.walk_for.Goals as goal

pub survey-requires : goal.survey-requires
survey-requires c = long_enough c.args.image.now c.in_ok-check_image.ensures

pub returns : goal.returns
returns c =
    search (
      rules,
      walk_judged c.args.image.now c.args.list.now c.args.key c.survey.result c.survey.ensures
          c.in_ok-check_image.ensures
          c.in_ok-check_room.ensures,
    )
