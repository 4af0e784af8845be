-- What the refusals of trade and request say where none applies.
use Prim.Native.Nat.{ℕ}
use mathlib.Core.Path.{◌≡◌}
use mathlib.Core.Bool.{Bool, false}
use native.Mathlib.Omega.{arith}
use Rattle.call.specs.Outcome.{or_else, whenever}
use Rattle.call.proofs.LadderLaws.{none_first, none-second, not-whenever}

-- where none of a call's numbers applies: the state's, 7, 8, 9 and 10
pub none-applies : (unfit : ℕ) (c7 c8 c9 c10 : Bool) → or_else unfit (or_else (whenever c7 7) (or_else (whenever c8 8) (or_else (whenever c9 9) (whenever c10 10)))) ≡ 0 → (unfit ≡ 0) × (c7 ≡ false) × (c8 ≡ false) × (c9 ≡ false) × (c10 ≡ false)
none-applies unfit c7 c8 c9 c10 e =
    let e7 = none-second unfit _ e in
    let e8 = none-second (whenever c7 7) _ e7 in
    let e9 = none-second (whenever c8 8) _ e8 in (
      none_first unfit _ e,
      not-whenever c7 7 (omega arith) (none_first (whenever c7 7) _ e7),
      not-whenever c8 8 (omega arith) (none_first (whenever c8 8) _ e8),
      not-whenever c9 9 (omega arith) (none_first (whenever c9 9) _ e9),
      not-whenever c10 10 (omega arith) (none-second (whenever c9 9) _ e9),
    )
