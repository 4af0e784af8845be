use Rattle.base.proofs.Prelude.{◌<◌, ◌∙◌, ap, length, arith, rules}
use Rattle.base.proofs.VectorLaws.{filling-none, filling-next, filling-all}
use Rattle.intertie_shares.specs.Pairs.{column}
use Rattle.intertie_shares.proofs.LoopLaws.{claim-in_row}
use Rattle.intertie_shares.proofs.Claims.gather.Goals as goal

pub loop-h-init : goal.loop-h-init
loop-h-init c = search (rules, filling-none)

pub loop-h-preserved : goal.loop-h-preserved
loop-h-preserved c =
    let given = c.args.self in
    let before : c.loop-h.h < length given.weights.now = omega (arith, c.loop-h.invariant.size, c.requires.1) in
    filling-next _ _ _ _ _ c.loop-h.invariant (omega arith)
    (claim-in_row _ _ _ _ _ _ c.rows-rows.ensures.0 given.claimed given.few_interties given.few_holders c.requires.0 before)

pub returns : goal.returns
returns c =
    filling-all _ _ _ _ c.loop-h.invariant (omega arith)
    ∙ ap (λ n. column c.args.self.claims.now n c.args.intertie) c.requires.1
