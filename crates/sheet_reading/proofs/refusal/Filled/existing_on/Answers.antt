use Rattle.base.proofs.Prelude.{ℕ, ◌*◌, rules, sym, arith, at}
use Rattle.sheet_reading.specs.Tables.{existing_slot}
use Rattle.base.proofs.SumLaws.{sum_to-zero, sum_more, sum_room}
use Rattle.sheet_reading.proofs.DecideLaws.{existing-in_row}
use Rattle.sheet_reading.proofs.refusal.Filled.existing_on.Goals as goal

pub loop-row-init : goal.loop-row-init
loop-row-init c = sym (sum_to-zero _)

pub overflow_add-sum : goal.overflow_add-sum
overflow_add-sum c =
    let a = c.args in
    let f : ℕ → ℕ = λ k. at a.self.kw.now (existing_slot k a.intertie) in
    let word = existing-in_row a.self.kw.now _ a.self.holders c.loop-row.row-index a.intertie (search rules) a.self.few_holders c.requires c.as_chunks.ensures.front c.loop-row-test.true in
    record { fits = omega (arith, c.loop-row.invariant, word.1, sum_room 32 c.loop-row.row-index (1024 * 4_294_967_295) f (λ k. a.self.modest (existing_slot k a.intertie)) word.0) }

pub loop-row-preserved : goal.loop-row-preserved
loop-row-preserved c =
    let a = c.args in
    sum_more _ _ _ _ c.loop-row.invariant
    (existing-in_row a.self.kw.now _ a.self.holders c.loop-row.row-index a.intertie (search rules) a.self.few_holders c.requires c.as_chunks.ensures.front c.loop-row-test.true).1
