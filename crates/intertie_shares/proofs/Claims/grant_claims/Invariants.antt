-- `grant_claims` meets its contract: after h turns the first h holders have their claims.
use Rattle.base.proofs.Prelude.{length}
use Rattle.intertie_shares.specs.Pairs.{at_pair}
use Rattle.intertie_shares.proofs.LoopLaws.{Scattered}
use Rattle.intertie_shares.proofs.Claims.grant_claims.Given as goal

abbrev pub invariant-loop-h : goal.invariant-loop-h
invariant-loop-h l = Scattered l.intertie (length l.self.weights.now) (λ k. at_pair l.self.claims.now k l.intertie) l.initial.grants l.grants l.h
