-- `Filled::limits_hold` meets its contract: the test of the interties so far.
use Rattle.base.proofs.Prelude.{◌≡◌, all_to}
use Rattle.sheet_reading.specs.Workers.Deciding.{table_limit_holds}
use Rattle.sheet_reading.proofs.refusal.Filled.limits_hold.Given as goal

abbrev pub invariant-loop-i : goal.invariant-loop-i
invariant-loop-i l = l.hold ≡ all_to l.i (table_limit_holds l.self.kw.now l.self.holders)
