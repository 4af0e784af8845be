-- `Filled::limit_holds` meets its contract: sums of a modest table fit 64 bits.
use Rattle.base.proofs.Prelude.{arith}
use Rattle.sheet_reading.specs.Tables.{outside_slot}
use Rattle.sheet_reading.proofs.DecideLaws.{existing-bound}
use Rattle.sheet_reading.proofs.refusal.Filled.limit_holds.Goals as goal

pub overflow_add-result-2 : goal.overflow_add-result-2
overflow_add-result-2 c = let a = c.args in
    omega (arith, a.self.modest (outside_slot a.intertie), existing-bound a.self.kw.now a.self.holders a.intertie a.self.few_holders a.self.modest)
