-- `quantity` meets its contract: the product is within the ranges of T and a load share.
use Rattle.base.proofs.Prelude.{◌*◌, ◌≤◌, arith}
use native.Mathlib.Nat.{mul-le-mul}
use Rattle.steps_2_to_4.proofs.step_2.quantity.Goals as goal

pub overflow_mul-total : goal.overflow_mul-total
overflow_mul-total c =
    let a = c.args in
    let most : a.total * a.load ≤ 960000000 * 100000000 = mul-le-mul c.requires.0 c.requires.1 in
    omega arith
