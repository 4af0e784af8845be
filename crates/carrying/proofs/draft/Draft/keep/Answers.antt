-- `Draft::keep` meets its contract: what goes on of the record is one record more, or nothing (`DraftLaws`).
use Rattle.carrying.proofs.DraftLaws.{record_drafted}
use Rattle.carrying.proofs.draft.Draft.keep.Goals as goal

pub returns : goal.returns
returns c = record_drafted _ _ _ c.goes_on.ensures _ _ _ c.from.ensures.1 c.next_key.ensures c.new_use_rank.ensures _ _ c.put.ensures
