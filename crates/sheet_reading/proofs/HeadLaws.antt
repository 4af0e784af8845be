-- What it says of a sheet that refusals 1 and 2 let it pass.
use Prim.Native.Nat.{ℕ}
use mathlib.Core.Path.{◌≡◌, refl, ap}
use mathlib.Core.Bool.{Bool, true, false}
use mathlib.Core.List.{List}
use native.Mathlib.Nat.{suc-ne-zero}
use Rattle.base.specs.Choice.{pick}
use Rattle.base.specs.Refused.{number_in}
use Rattle.base.specs.declared.refusals.Refusal.TheVariants.{SheetLength, Sizes}
use Rattle.std.proofs.Common.{Ok, Err}
use Rattle.sheet_records.specs.Refusal.{bad_length, bad_sizes}
use Rattle.sheet_reading.specs.Headed.{headed}

module _ (s : List ℕ) (passed : headed s ≡ Ok s) where
  pub sizes-pass : (bad_length s ≡ false) × (bad_sizes s ≡ false)
  unfolding headed
  sizes-pass = go (bad_length s) (bad_sizes s) passed
    where
      go : (a b : Bool) → pick a (Err SheetLength) (pick b (Err Sizes) (Ok s)) ≡ Ok s → (a ≡ false) × (b ≡ false)
      go true b e = absurd (suc-ne-zero 0 (ap number_in e))
      go false true e = absurd (suc-ne-zero 1 (ap number_in e))
      go false false e = (refl, refl)

  pub passes : bad_length s ≡ false
  passes = sizes-pass.0
