-- The numbers of refusals.
use Rattle.std.proofs.Common.{◌≤◌, ◌≡◌, ap, arith, Result, Ok, Err}
use Rattle.std.specs.Result.{IsErrAnd}
use Rattle.base.specs.declared.refusals.Refusal.{Refusal}
use Rattle.base.specs.declared.refusals.Refusal.TheVariants.{SheetLength, Sizes, Records, AboveLimit, Room, NotOrderly, Stage}
use Rattle.base.specs.declared.refusals.Refusal.TheVariants.{NoSuch, Range, TooMuch, Day, NoneLeft, Lock, Carry}
use Rattle.base.specs.Refused.{number_of, number_in}

-- no refusal has the number 0, which is none
pub numbered : (r : Refusal) → 1 ≤ number_of r
numbered SheetLength = omega arith
numbered Sizes = omega arith
numbered Records = omega arith
numbered AboveLimit = omega arith
numbered Room = omega arith
numbered NotOrderly = omega arith
numbered Stage = omega arith
numbered NoSuch = omega arith
numbered Range = omega arith
numbered TooMuch = omega arith
numbered Day = omega arith
numbered NoneLeft = omega arith
numbered Lock = omega arith
numbered Carry = omega arith

-- a refusal that `?` hands on keeps its number
pub handed-on : {A : Type 0} (r : Result A Refusal) (e : Refusal) → IsErrAnd r (λ x. x ≡ e) → number_in r ≡ number_of e
handed-on (Ok x) e a = absurd a
handed-on (Err x) e a = ap number_of a
