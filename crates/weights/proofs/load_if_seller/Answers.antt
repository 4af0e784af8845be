-- `load_if_seller` meets its contract: the bit is 0 or 1.
use Rattle.base.proofs.Prelude.{◌*◌, ◌≡◌, arith}
use Rattle.weights.specs.Weight.{seller_bit}
use Rattle.weights.proofs.WeightLaws.{bit-load}
use Rattle.weights.proofs.load_if_seller.Goals as goal

pub overflow_mul-result : goal.overflow_mul-result
overflow_mul-result c =
    let a = c.args in
    let product : c.from.result * c.from-2.result ≡ seller_bit a.sellers a.holder * a.load = cc (c.from.ensures, c.from-2.ensures) in
    omega (arith, product, bit-load a.sellers a.holder a.load)

pub returns : goal.returns
returns c =
    let a = c.args in
    let product : c.from.result * c.from-2.result ≡ seller_bit a.sellers a.holder * a.load = cc (c.from.ensures, c.from-2.ensures) in
    (product, omega (arith, product, bit-load a.sellers a.holder a.load))
