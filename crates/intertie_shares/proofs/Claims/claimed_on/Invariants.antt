-- `claimed_on` meets its contract: after h turns what the claims of the first h holders leave of the pool.
use Rattle.intertie_shares.specs.Pairs.{at_pair}
use Rattle.intertie_shares.proofs.LoopLaws.{Claiming}
use Rattle.intertie_shares.proofs.Claims.claimed_on.Given as goal

abbrev pub invariant-loop-row : goal.invariant-loop-row
invariant-loop-row l = Claiming l.pool (λ k. at_pair l.self.claims.now k l.intertie) l.left l.row-index
