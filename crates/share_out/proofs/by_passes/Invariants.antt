-- `by_passes` meets its contract: each turn of the outer loop is a pass of the definition (`LoopLaws`).
use Rattle.share_out.proofs.LoopLaws.{Between, Turns}
use Rattle.share_out.proofs.by_passes.Given as goal

abbrev pub invariant-loop-i : goal.invariant-loop-i
invariant-loop-i l =
    Turns l.left l.claims l.weights l.initial.grants l.initial.open_weights l.grants l.open_weights l.given l.still_open l.i

abbrev pub invariant-passes : goal.invariant-passes
invariant-passes l = Between l.pool l.claims l.weights l.grants l.open_weights l.left l.all l.made

abbrev pub decreases-passes : goal.decreases-passes
decreases-passes l = l.left
