-- What the workers of Step 5 are handed once lists and numbers are found to fit.
use Rattle.std.specs.Prelude.{ℕ, ◌*◌, ◌/◌, ◌≤◌, ◌<◌, ◌≡◌, List, length}
use Rattle.base.specs.Limits.{most_holders, most_held_kw, most_load_share}
use Rattle.base.specs.Words.{at}
use Rattle.step_5.specs.Round.{eligible}

-- every one of the first n numbers is at most `most`
abbrev pub AtMost : ℕ → List ℕ → ℕ → Type 0
AtMost n l most = (i : ℕ) → i < n → at l i ≤ most

-- a mark for each of n holders
pub record Marks (n : ℕ) (x : List ℕ) : Type 0 where
  pub size : length x ≡ n
  pub each : AtMost n x 1

-- lists that fit and numbers in range
pub record Accepted (total : ℕ) (held loads : List ℕ) : Type 0 where
  pub few : length held ≤ most_holders
  pub paired : length loads ≡ length held
  pub total-kw : total ≤ most_held_kw
  pub held-kw : AtMost (length held) held most_held_kw
  pub load-shares : AtMost (length held) loads most_load_share

-- at most 32 numbers in range, and a mark for each
pub record Addends (marks numbers : List ℕ) : Type 0 where
  pub few : length numbers ≤ most_holders
  pub marked : length marks ≡ length numbers
  pub each : AtMost (length numbers) numbers most_held_kw

-- the load shares of the most holders together
abbrev pub most_loads : ℕ
most_loads = 3200000000

-- what is multiplied in a round: held × V and G × load share
pub record Factors (held load gross all : ℕ) : Type 0 where
  pub held-kw : held ≤ most_held_kw
  pub load-share : load ≤ most_load_share
  pub gross-kw : gross ≤ most_held_kw
  pub all-loads : all ≤ most_loads

-- what an eligible holder's share is made of: V above 0, and held at most G × load share / V
pub record Quota (mark held load gross all : ℕ) : Type 0 where
  pub factors : Factors held load gross all
  pub divided : mark ≡ eligible → 0 < all
  pub covered : mark ≡ eligible → held ≤ gross * load / all
