-- `write_shares` meets its contract: after i turns the first i shares are written (`LoopLaws`).
use Rattle.step_5.proofs.LoopLaws.{Sharing}
use Rattle.step_5.proofs.Holders.write_shares.Given as goal

abbrev pub invariant-loop-i : goal.invariant-loop-i
invariant-loop-i l = Sharing l.self.total l.self.held.now l.self.loads.now l.marks l.initial.shares l.shares l.i
