-- `tables::find_slots` meets its contract: the slots of the records so far.
use Rattle.base.proofs.Prelude.{◌≡◌, length, fill}
use Rattle.sheet_reading.proofs.PassLaws.{slot_at}
use Rattle.sheet_reading.proofs.tables.find_slots.Given as goal

abbrev pub invariant-loop-place : goal.invariant-loop-place
invariant-loop-place l = l.room ≡ fill (length l.yielded) (slot_at l.sheet) l.initial.room
