-- `leave_unassigned` meets its contract: the words are read, and the grants are taken off.
use Rattle.base.proofs.Prelude.{arith, ◌∙◌}
use Rattle.base.proofs.VectorLaws.{off_rows}
use Rattle.closing.proofs.ClosedLaws.{unassigned-left}
use Rattle.closing.proofs.grants.Closing.leave_unassigned.Goals as goal

pub returns : goal.returns
returns c =
    let table = c.args.self.table.now in
    let read = c.read_rows.new.numbers in
    let off = rw c.as_chunks.ensures.front at c.take_off_each.ensures in
    unassigned-left _ table c.args.self.granted _ _ _ _ (omega arith) c.holder_count-holders.ensures c.read_rows.ensures
    (off ∙ off_rows 48 _ c.holder_count-holders.result table read (omega arith) (omega arith))
