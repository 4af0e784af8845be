-- `scatter` meets its contract: after h turns the first h holders have their words in the table.
use Rattle.base.proofs.Prelude.{length, at}
use Rattle.intertie_shares.proofs.LoopLaws.{Scattered}
use Rattle.intertie_shares.proofs.scatter.Given as goal

abbrev pub invariant-loop-h : goal.invariant-loop-h
invariant-loop-h l = Scattered l.intertie (length l.words) (at l.words) l.initial.table l.table l.h
