-- `exclude_round` meets its contract: after i turns the first i holders have the marks of the round (`LoopLaws`).
use Rattle.step_5.proofs.LoopLaws.{Excluding}
use Rattle.step_5.proofs.Holders.exclude_round.Given as goal

abbrev pub invariant-loop-i : goal.invariant-loop-i
invariant-loop-i l = Excluding l.self.total l.self.held.now l.self.loads.now l.initial.marks l.marks l.newly l.i
