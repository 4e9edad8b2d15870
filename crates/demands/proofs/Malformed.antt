-- Refusal 9, "bench program: line malformed", is "given exactly" for a line that spells no command.
use Rattle.std.specs.Prelude.{◌≡◌, List, ◌↔◌, ℕ, Option}
use Rattle.std.proofs.Common.{ap}
use Rattle.command.specs.declared.Command.{Command}
use Rattle.command.specs.Spelling.{spelling, InRange}
use Rattle.command.specs.Reading.{parse_of}
use Rattle.command.proofs.Exact.{malformed}
use Rattle.perform.specs.Perform.{refused, performed}
use Rattle.demands.proofs.OnlyMalformed.{only_malformed}

-- THE STATEMENT
pub nine : (line image : List ℕ) → ((performed (parse_of line) image).printed ≡ refused 9)
    ↔ ((c : Command) → spelling c ≡ line → InRange c → ⊥)
unfolding performed
nine line image = (
  λ e. (malformed line).0 (only_malformed (parse_of line) image e),
  λ f. ap (λ (c : Option Command). (performed c image).printed) ((malformed line).1 f),
)
