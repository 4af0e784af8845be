-- `serve_in_turn` meets its contract: after i turns the first i holders are served (`TurnLaws`).
use Rattle.share_out.proofs.TurnLaws.{Serves}
use Rattle.share_out.proofs.serve_in_turn.Given as goal

abbrev pub invariant-loop-i : goal.invariant-loop-i
invariant-loop-i g l = Serves (goal.F-post g l.want) l.left l.claims l.open_weights l.initial.grants l.grants l.rest l.i
