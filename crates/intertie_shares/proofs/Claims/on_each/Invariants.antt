-- `on_each` meets its contract: after i turns the first i interties are shared out.
use Rattle.base.proofs.Prelude.{length}
use Rattle.intertie_shares.proofs.LoopLaws.{Over}
use Rattle.intertie_shares.proofs.Claims.on_each.Given as goal

abbrev pub invariant-loop-i : goal.invariant-loop-i
invariant-loop-i l =
    Over (length l.self.pools.now) (length l.self.weights.now) l.self.pools.now l.self.claims.now l.self.weights.now l.initial.grants l.grants l.kw l.passes l.i
