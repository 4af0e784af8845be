-- `grant_all` meets its contract: after i turns the first i grants are the claims.
use Rattle.base.proofs.Prelude.{at}
use Rattle.base.proofs.VectorLaws.{Filling}
use Rattle.share_out.proofs.grant_all.Given as goal

abbrev pub invariant-loop-i : goal.invariant-loop-i
invariant-loop-i l = Filling (at l.claims) l.initial.grants l.grants l.i
