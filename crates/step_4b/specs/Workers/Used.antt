-- Ranks without kW, past which nothing changes.
use Rattle.std.specs.Prelude.{ℕ, ◌≤◌, ◌<◌, ◌≡◌, List, length}
use Rattle.base.specs.Words.{at}

-- the numbers of a list are 0
abbrev pub Zeros : List ℕ → Type 0
Zeros numbers = (i : ℕ) → i < length numbers → at numbers i ≡ 0

-- of so many ranks none past the used ones has kW
pub record Used (kw : List ℕ) (ranks used : ℕ) : Type 0 where
  pub within : used ≤ ranks
  pub idle : (r : ℕ) → used ≤ r → r < ranks → at kw r ≡ 0
