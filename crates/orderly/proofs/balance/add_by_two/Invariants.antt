-- `add_by_two` meets its contract: the holders passed are added.
use Rattle.base.proofs.Prelude.{◌*◌}
use Rattle.orderly.specs.Workers.Check.{Added}
use Rattle.orderly.proofs.balance.add_by_two.Given as goal

abbrev pub invariant-loop-two : goal.invariant-loop-two
invariant-loop-two l = Added l.rows (2 * l.two) l.bits l.sums
