-- `past_three_quarters` meets its contract: 48 locked words and the kW fit 64 bits, four times over.
use Rattle.base.proofs.Prelude.{arith}
use Rattle.holding.proofs.LockLaws.{locked-most}
use Rattle.holding.proofs.past_three_quarters.Goals as goal

pub overflow_add-locked : goal.overflow_add-locked
overflow_add-locked c = omega (arith, locked-most c.args.state.now c.args.holder c.requires.0 (λ p. omega (arith, c.type_inv.state p)), c.of_holder.ensures)

pub overflow_add-result : goal.overflow_add-result
overflow_add-result c = omega (arith, locked-most c.args.state.now c.args.holder c.requires.0 (λ p. omega (arith, c.type_inv.state p)), c.of_holder.ensures)

pub overflow_mul-result-2 : goal.overflow_mul-result-2
overflow_mul-result-2 c = omega (arith, locked-most c.args.state.now c.args.holder c.requires.0 (λ p. omega (arith, c.type_inv.state p)), c.of_holder.ensures)
