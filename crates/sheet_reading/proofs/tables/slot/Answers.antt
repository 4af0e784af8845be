-- `sheet_reading::tables::slot` meets its contract: the choices are those of the definition.
use Rattle.sheet_reading.specs.Tables.{slot}
use Rattle.sheet_reading.proofs.tables.slot.Goals as goal

pub returns : goal.returns
unfolding slot
returns c = cc
