use Rattle.share_out.proofs.TurnLaws.{serves-none, serves-next, serves-all, serves-empty}
use Rattle.share_out.proofs.serve_in_turn.Goals as goal

pub loop-i-init : goal.loop-i-init
loop-i-init g c = serves-none _ _ _ _ _

-- the pool is empty
pub returns-then-rest-eq0 : goal.returns-then-rest-eq0
returns-then-rest-eq0 g c = serves-empty _ _ _ _ _ _ _ _ c.requires.lists.granted c.loop-i.invariant c.if-rest-eq0.true

pub loop-i-preserved : goal.loop-i-preserved
loop-i-preserved g c = serves-next _ _ _ _ _ _ _ _ _ _ c.loop-i.invariant c.loop-i-test.true (rw c.saturating_sub-unmet.ensures at c.want.ensures) c.min-kw.ensures

pub returns : goal.returns
returns g c = serves-all _ _ _ _ _ _ _ _ c.requires.lists.granted c.loop-i.invariant c.loop-i-test.false
