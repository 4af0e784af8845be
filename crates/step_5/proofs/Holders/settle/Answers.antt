use Rattle.base.proofs.Prelude.{rules}
use Rattle.step_5.proofs.LoopLaws.{settling-first, settling-next, settling-less, settling-last}
use Rattle.step_5.proofs.Holders.settle.Goals as goal

pub loop-smaller : goal.loop-smaller
loop-smaller c =
    settling-less _ _ _ _ _ _ c.loop.invariant c.exclude_round.ensures c.if-exclude_round-eq0.false

pub loop-preserved : goal.loop-preserved
loop-preserved c =
    settling-next _ _ _ _ _ _ c.loop.invariant c.exclude_round.ensures

pub loop-init : goal.loop-init
loop-init c = rw c.requires (settling-first _ _ _)

pub returns : goal.returns
returns c = search (rules, settling-last)
