-- What the workers are handed once refusal 5 is decided, and what one intertie's share-out leaves.
use Rattle.std.specs.Prelude.{ℕ, ◌≤◌, ◌≡◌, List, length}
use Rattle.base.specs.Limits.{most_interties, most_holders, most_pairs}
use Rattle.base.specs.Words.{at}
use Rattle.base.specs.declared.Granted.{Granted}
use Rattle.intertie_shares.specs.Pairs.{at_pair, fill_column}
use Rattle.intertie_shares.specs.Rule.{share_out_on}

-- what refusal 5 leaves of the sizes
pub record Sized (I H : ℕ) (pools claims weights grants : List ℕ) : Type 0 where
  pub interties : I ≤ most_interties
  pub holders : H ≤ most_holders
  pub pooled : I ≤ length pools
  pub weighed : H ≤ length weights
  pub claimed : most_pairs ≤ length claims
  pub room : most_pairs ≤ length grants

-- intertie i is shared out: r has the kW and the passes of the answer, and the table of grants has its column
pub record SharedOn (i H : ℕ) (pools claims weights grants : List ℕ) (r : Granted) (after : List ℕ) : Type 0 where
  pub kw : r.kw ≡ (share_out_on H (at pools) (at_pair claims) (at weights) i).answer.kw
  pub passes : r.passes ≡ (share_out_on H (at pools) (at_pair claims) (at weights) i).answer.passes
  pub column : after ≡ fill_column i H (at (share_out_on H (at pools) (at_pair claims) (at weights) i).output) grants
