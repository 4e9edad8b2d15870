-- The settled stores under document 01's rule, as code finds them: with F the last fence taken, the stores before F to a
-- line that had a write-back before F.
use Rattle.std.specs.Prelude.{ℕ, zero, suc, Bool}
use Rattle.words.specs.Below.{any_below}
use Rattle.steps.specs.Model.{Step, store, write_back, fence, Steps, writes_back}

-- the new number at a fence, the old one at any other step; the last fence of the first n steps, 0 where there is none
abbrev pub on_fence : Step → ℕ → ℕ → ℕ
on_fence (store p v) new old = old
on_fence (write_back k) new old = old
on_fence fence new old = new

abbrev pub last_fence : Steps → ℕ → ℕ
last_fence s zero = 0
last_fence s (suc n) = on_fence (s n) n (last_fence s n)

-- the line l had a write-back in the first n steps
abbrev pub had_back : Steps → ℕ → ℕ → Bool
had_back s n l = any_below (λ j. writes_back l (s j)) n
