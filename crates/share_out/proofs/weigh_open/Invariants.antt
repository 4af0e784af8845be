-- `weigh_open` meets its contract: after i turns the first i weights are noted and summed (`LoopLaws`).
use Rattle.base.proofs.Prelude.{length}
use Rattle.share_out.specs.Workers.Fit.{none}
use Rattle.share_out.specs.Pass.{open_weight}
use Rattle.share_out.proofs.LoopLaws.{Noted}
use Rattle.share_out.proofs.weigh_open.Given as goal

abbrev pub invariant-loop-i : goal.invariant-loop-i
invariant-loop-i l =
    Noted (open_weight l.claims l.weights (none l.claims)) l.initial.open_weights (length l.claims) l.open_weights l.all l.i
