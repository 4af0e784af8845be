-- `sum_marked` meets its contract: after some turns the sum is that of as many holders with the mark (`LoopLaws`).
use Rattle.base.proofs.Prelude.{length}
use Rattle.step_5.proofs.LoopLaws.{Summed}
use Rattle.step_5.proofs.sum_marked.Given as goal

abbrev pub invariant-loop-own : goal.invariant-loop-own
invariant-loop-own l = Summed l.mark l.marks l.numbers l.sum (length l.yielded)
