-- `settle` meets its contract: rounds from the marks of any turn end as rounds from the start, and a round that excludes none is the last.
use Rattle.base.proofs.Prelude.{◌-◌, length, sum_to, at}
use Rattle.step_5.proofs.LoopLaws.{Settling}
use Rattle.step_5.proofs.Holders.settle.Given as goal

abbrev pub invariant-loop : goal.invariant-loop
invariant-loop l = Settling l.self.total l.self.held.now l.self.loads.now l.marks

-- how many are eligible
abbrev pub decreases-loop : goal.decreases-loop
decreases-loop l = length l.self.held.now - sum_to (length l.self.held.now) (at l.marks)
