use Rattle.std.proofs.Common.{◌≡◌, ◌-◌, ◌∙◌, ap, length, []}
use Rattle.std.proofs.lemmas.List.{get_or_default}
use lib.ListN.{get_or}
use Rattle.base.specs.Words.{at, tab}
use Rattle.base.proofs.VectorLaws.{lowered_none, lowered-next}
use Rattle.base.proofs.vectors.take_off_each.Invariants.{number}
use Rattle.base.proofs.vectors.take_off_each.Goals as goal

pub loop-list-init : goal.loop-list-init
loop-list-init g c = lowered_none (number c.args.lists.now) c.args.row.now

pub loop-list-preserved : goal.loop-list-preserved
loop-list-preserved g c =
    let lists = c.args.lists.now in
    let row = c.loop-list.row in
    let list : c.list-item.result ≡ get_or lists c.loop-list.list-index [] =
    c.list-item.is ∙ get_or_default lists c.loop-list.list-index _ _ c.loop-list-test.true in
    lowered-next (number lists) c.args.row.now _ _ _ c.loop-list.invariant
    (c.take_off.ensures ∙ ap (λ l. tab (length row) (λ k. at row k - at l k)) list)
