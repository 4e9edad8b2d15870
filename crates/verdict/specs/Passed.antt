-- A leaf in which no fault is found.
use Rattle.std.specs.Prelude.{◌≡◌, false, ℕ, ◌<◌}
use Rattle.words.specs.Below.{count_below}
use Rattle.leaf.specs.Leaf.{Leaf}
use Rattle.leaf.specs.Search.{count}
use Rattle.leaf.specs.Tally.{wrong_at, at_most, twins}
use Rattle.survey.specs.Walk.{State, again_by, bare_by, low_by}

-- what the seven tests ask
pub record Passed (L : Leaf) (N : ℕ) (st : State) : Type 0 where
  pub near : L.next < N
  pub new : again_by st L.next ≡ false
  pub unlocked : L.lock ≡ false
  pub full : bare_by st (count L) ≡ false
  pub prints : count_below (wrong_at L) L.size ≡ 0
  pub alone : twins L ≡ false
  pub above : low_by st (count_below (at_most L st.last) L.size) ≡ false
