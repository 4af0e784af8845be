-- The head of a sheet: refusals 1 and 2.
use Rattle.std.specs.Prelude.{ℕ, List, Result, Ok, Err}
use Rattle.base.specs.Choice.{pick}
use Rattle.base.specs.declared.refusals.Refusal.{Refusal}
use Rattle.base.specs.declared.refusals.Refusal.TheVariants.{SheetLength, Sizes}
use Rattle.sheet_records.specs.Refusal.{bad_length, bad_sizes}

-- a sheet that they let pass, or the one that applies
unfoldable pub headed : List ℕ → Result (List ℕ) Refusal
headed s = pick (bad_length s) (Err SheetLength) (pick (bad_sizes s) (Err Sizes) (Ok s))
