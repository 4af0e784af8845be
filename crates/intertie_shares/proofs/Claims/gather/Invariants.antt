-- `gather` meets its contract: after h turns the first h words are those of the column.
use Rattle.base.proofs.VectorLaws.{Filling}
use Rattle.intertie_shares.specs.Pairs.{at_pair}
use Rattle.intertie_shares.proofs.Claims.gather.Given as goal

abbrev pub invariant-loop-h : goal.invariant-loop-h
invariant-loop-h l = Filling (λ k. at_pair l.self.claims.now k l.intertie) l.initial.claimed l.claimed l.h
