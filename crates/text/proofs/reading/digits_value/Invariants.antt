-- `digits_value` meets its contract: the value of the digits read so far is below 2 ^ 32.
use Rattle.base.proofs.Prelude.{◌^◌, ◌<◌, ◌≡◌, take}
use Rattle.text.specs.Decimal.{value as value_of}
use Rattle.text.proofs.reading.digits_value.Given as goal

abbrev pub invariant-loop-digit : goal.invariant-loop-digit
invariant-loop-digit l = (l.value ≡ value_of (take l.digit-index l.digits)) × (l.value < 2 ^ 32)
