use Rattle.std.proofs.Common.{◌-◌, ap, ◌∙◌, arith}
use Rattle.base.specs.Words.{at}
use Rattle.base.proofs.VectorLaws.{filling-none, filling-later, filling-next, filling-rest, past_end}
use Rattle.base.proofs.vectors.take_off.Invariants.{word}
use Rattle.base.proofs.vectors.take_off.Goals as goal

pub loop-c-preserved : goal.loop-c-preserved
loop-c-preserved c =
    let list = c.args.list.now in
    let row = c.args.row.now in
    filling-next (word list row) row _ _ _ c.loop-c.invariant (omega arith)
    (c.saturating_sub.ensures ∙ ap (λ k. k - at list c.loop-c.c) (filling-later (word list row) row _ _ c.loop-c.invariant))

pub returns : goal.returns
returns c =
    let list = c.args.list.now in
    let row = c.args.row.now in
    filling-rest (word list row) row _ c.loop-c.c c.loop-c.invariant
    (λ i past inside. past_end row list i (omega arith))

pub loop-c-init : goal.loop-c-init
loop-c-init c = filling-none _ _

pub shape_of-row : goal.shape_of-row
shape_of-row c = c.loop-c.invariant.size
