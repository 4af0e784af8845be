use Rattle.base.proofs.Prelude.{refl, ap, ◌∙◌, arith, at, tab}
use Rattle.base.proofs.VectorLaws.{filling-none, filling-next, filling-all}
use Rattle.base.proofs.WordLaws.{tab-at}
use Rattle.share_out.proofs.grant_all.Goals as goal

pub loop-i-init : goal.loop-i-init
loop-i-init c = filling-none _ _

pub bounds-grants-i : goal.bounds-grants-i
bounds-grants-i c = omega (arith, c.requires, c.loop-i.invariant.size, c.loop-i-test.true)

pub loop-i-preserved : goal.loop-i-preserved
loop-i-preserved c =
    filling-next _ _ _ _ _ c.loop-i.invariant (omega (arith, c.requires, c.loop-i.invariant.size, c.loop-i-test.true)) refl

pub returns : goal.returns
returns c =
    filling-all _ _ _ _ c.loop-i.invariant (omega (arith, c.requires, c.loop-i.invariant.size, c.loop-i-test.false))
    ∙ ap (λ n. tab n (at c.args.claims.now)) c.requires
    ∙ tab-at c.args.claims.now
