-- `keep_new_use` meets its contract: after r turns the state is the definition's after the ranks below r (`LoopLaws`), and the ranks past the used ones change nothing.
use Rattle.base.proofs.Prelude.{length}
use Rattle.step_4b.proofs.LoopLaws.{Ranked}
use Rattle.step_4b.proofs.keep_new_use.Given as goal

abbrev pub invariant-loop-r : goal.invariant-loop-r
invariant-loop-r l =
    Ranked l.kw l.interties l.allowance l.initial.cover (length l.initial.kept) l.used (record { cover = l.cover; kept = l.kept; allowance = l.left }) l.r
