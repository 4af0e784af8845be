-- `Headed::read` meets its contract: the tables are filled from cleared ones.
use Rattle.sheet_reading.proofs.DecideLaws.{read-filled}
use Rattle.sheet_reading.proofs.refusal.Headed.read.Goals as goal

pub place_records-requires : goal.place_records-requires
place_records-requires c = c.empty.ensures.2

pub read_sized-requires : goal.read_sized-requires
read_sized-requires c = (c.empty.ensures.0, c.empty.ensures.1)

pub returns : goal.returns
returns c =
    let same = c.find_slots-found.ensures in
    let filled = rw same at c.read_sized.ensures in
    read-filled _ _ _ _ (rw same at c.find_slots-found.result.passed) filled.0
    (record { counted = filled.1; summed = filled.2; placed = rw same at c.place_records.ensures })
