-- `used_ranks` meets its contract: sixteen zeros at a time are left out (`UsedLaws`).
use Rattle.step_4b.specs.Workers.Used.{Used}
use Rattle.step_4b.proofs.used_ranks.Given as goal

abbrev pub invariant-loop-used : goal.invariant-loop-used
invariant-loop-used l = Used l.kw l.ranks l.used

abbrev pub decreases-loop-used : goal.decreases-loop-used
decreases-loop-used l = l.used
