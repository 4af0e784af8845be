-- `keep_rank` meets its contract: a rank without kW changes nothing, any other is the definition's.
use Rattle.step_4b.specs.NewUse.{next_rank}
use Rattle.step_4b.proofs.RankLaws.{next_rank-none}
use Rattle.step_4b.proofs.keep_rank.Goals as goal

pub returns : goal.returns
unfolding next_rank
returns c = cc

pub returns-then-kw-eq0 : goal.returns-then-kw-eq0
returns-then-kw-eq0 c = rw c.if-kw-eq0.true (next_rank-none _ _)
