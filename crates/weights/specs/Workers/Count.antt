-- A state that can be weighed.
use Rattle.std.specs.Prelude.{◌≡◌, ℕ, ◌≤◌, List, length}
use Rattle.base.specs.Limits.{most_holders, state_words}
use Rattle.state.specs.Layout.{holders}

-- a state that has its words, and its count of holders
pub record Counted (s : List ℕ) (count : ℕ) : Type 0 where
  pub long : state_words ≤ length s
  pub counted : count ≡ holders s
  pub few : count ≤ most_holders
