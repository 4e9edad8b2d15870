-- The walk goes on, has passed a leaf in each turn, and keeps what a walk keeps.
use Rattle.std.proofs.Common.{◌≡◌, ◌/◌, length}
use Rattle.words.specs.Words.{reads}
use Rattle.survey.specs.Walk.{state_in, stage_number}
use Rattle.survey.specs.Turns.{Kept}
use Rattle.survey.proofs.walk.survey_noting.Given as goal

abbrev pub invariant-loop : goal.invariant-loop
invariant-loop l = record {
  goes : stage_number l.end.stage ≡ 0;
  passed : l.end.leaves ≡ l.counter;
  kept : Kept (reads l.image) (length l.image / 256) l.key l.counter (state_in l.end l.met) l.leasts l.numbers;
}
