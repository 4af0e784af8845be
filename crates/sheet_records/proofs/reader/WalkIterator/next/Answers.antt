-- `reader::Walk::next` meets its contract: the first of the records that are left, or none.
use Rattle.base.proofs.Prelude.{sym, ◌∙◌, arith, rules}
use Rattle.sheet_records.proofs.ReadingLaws.{none_left, some_left, fewer_left}
use Rattle.sheet_records.proofs.reader.WalkIterator.next.Goals as goal

pub returns-in_err-record-clause-steps : goal.returns-in_err-record-clause-steps
returns-in_err-record-clause-steps c =
    rw c.from_residual.ensures (let none = none_left _ _ _ _ c.self.view_is (sym c.read_at.ensures ∙ c.in_err-record.was) in (none, none))

pub overflow_add-self : goal.overflow_add-self
overflow_add-self c = let one = some_left _ _ _ _ c.self.view_is _ (sym c.read_at.ensures ∙ c.in_ok-record.was) in omega (arith, one.0)

pub returns-clause-steps : goal.returns-clause-steps
returns-clause-steps c = (some_left _ _ _ _ c.self.view_is _ (sym c.read_at.ensures ∙ c.in_ok-record.was)).1

pub returns-clause-goes : goal.returns-clause-goes
returns-clause-goes c =
    fewer_left _ _ _ (search rules) (some_left _ _ _ _ c.self.view_is _ (sym c.read_at.ensures ∙ c.in_ok-record.was)).1
