-- What hut_put, hut_set and hut_del tell, beside the list as it is left: an outcome as `writing` has it.
use Rattle.std.specs.Prelude.{List, ℕ}
use Rattle.writing.specs.Writing.{Outcome}

abbrev pub made_is : ℕ → ℕ → ℕ → ℕ → List ℕ → Outcome
made_is n steps lines words list = record { answer = n; steps = steps; lines = lines; words = words; list = list }
