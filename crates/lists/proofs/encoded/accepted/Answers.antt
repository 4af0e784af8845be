-- `accepted` meets its contract: whole calls, room for the answers, known kinds.
use Rattle.base.proofs.Prelude.{◌∙◌}
use Rattle.lists.proofs.EncodedLaws.{kinds-at, by-kinds, no-list}
use Rattle.lists.proofs.encoded.accepted.Goals as goal

pub returns-then-is_empty-calls : goal.returns-then-is_empty-calls
returns-then-is_empty-calls c =
    let e = c.as_chunks.ensures in
    by-kinds c.args.calls.now c.args.room _ _ c.is_empty.result c.is_empty.ensures e.back_len e.front_len c.if-is_empty-calls.true c.known_kinds.result
    (c.known_kinds.ensures ∙ kinds-at c.args.calls.now _ e.front e.front_len)

pub returns-else-is_empty-calls : goal.returns-else-is_empty-calls
returns-else-is_empty-calls c =
    let e = c.as_chunks.ensures in
    no-list c.args.calls.now c.args.room _ _ c.is_empty.result c.is_empty.ensures e.back_len e.front_len c.if-is_empty-calls.false
