-- `Filled::existing_on` meets its contract: the sum over the holders so far.
use Rattle.base.proofs.Prelude.{◌≡◌}
use Rattle.sheet_reading.specs.Workers.Deciding.{table_existing_on}
use Rattle.sheet_reading.proofs.refusal.Filled.existing_on.Given as goal

abbrev pub invariant-loop-row : goal.invariant-loop-row
invariant-loop-row l = l.sum ≡ table_existing_on l.self.kw.now l.row-index l.intertie
