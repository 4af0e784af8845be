-- The text of a sheet by cases: refused by 1, or written.
use Prim.Native.Nat.{ℕ, ◌≤◌}
use mathlib.Core.Path.{◌≡◌, refl, sym, ap, ◌∙◌}
use mathlib.Core.Bool.{Bool, true, false}
use mathlib.Core.List.{List, [], ◌∷◌, ◌++◌}
use native.Mathlib.Omega.{arith}
use lib.Dec.{ltb}
use lib.ListN.{length}
use Rattle.std.specs.Prelude.{Some, None}
use Rattle.base.specs.Choice.{pick}
use Rattle.text.specs.Written.{appended}
use Rattle.text.specs.Decimal.{decimal}
use Rattle.text.specs.Lines.{line_of}
use Rattle.text.proofs.PutLaws.{appended-fits}
use Rattle.sheet_records.specs.Sheet.{interties, holders, count}
use Rattle.sheet_records.specs.Refusal.{bad_length}
use Rattle.sheet_records.proofs.RefusalLaws.{long-enough}
use Rattle.sheet_table.specs.Fields.{comma}
use Rattle.sheet_table.proofs.RowLaws.{sizes-few}
use Rattle.sheet_table.specs.Table.{rows_of, sizes_line, table_of}

-- the first line, of any two numbers of 32 bits
module _ (I H : ℕ) (low : I ≤ 4_294_967_295) (small : H ≤ 4_294_967_295) (l m : List ℕ)
    (empty : l ≡ []) (put : m ≡ appended 34838 (line_of (decimal I) comma (H ∷ [])) l) where
  first : m ≡ line_of (decimal I) comma (H ∷ [])
  first =
      put
      ∙ appended-fits 34838 (line_of (decimal I) comma (H ∷ [])) l (omega (arith, ap length empty, sizes-few I H low small))
      ∙ ap (λ (t : List ℕ). t ++ line_of (decimal I) comma (H ∷ [])) empty

  pub first-short : length m ≤ 22
  first-short = omega (arith, ap length first, sizes-few I H low small)

module _ (sheet : List ℕ) (b : Bool) (is : b ≡ bad_length sheet) where
  pub none-tabled : b ≡ true → None ≡ pick (bad_length sheet) None (Some (table_of sheet))
  none-tabled t = rw (← is, t) refl

  module _ (f : b ≡ false) where
    pub passes : bad_length sheet ≡ false
    passes = sym is ∙ f

    -- all lines, the first of I and H as they are read
    module _ (I H : ℕ) (i : I ≡ pick (ltb (length sheet) 12) 0 (interties sheet)) (h : H ≡ pick (ltb (length sheet) 12) 0 (holders sheet))
        (low : I ≤ 4_294_967_295) (small : H ≤ 4_294_967_295) (l m : List ℕ) (empty : l ≡ []) (put : m ≡ appended 34838 (line_of (decimal I) comma (H ∷ [])) l) where
      pub all-tabled : (n : List ℕ) → n ≡ m ++ rows_of sheet (count sheet) → Some n ≡ pick (bad_length sheet) None (Some (table_of sheet))
      unfolding table_of sizes_line
      all-tabled n rows =
          rw passes (
          ap Some (
          rows
          ∙ ap (λ (t : List ℕ). t ++ rows_of sheet (count sheet)) (first I H low small l m empty put)
          ∙ ap (λ (k : ℕ). line_of (decimal k) comma (H ∷ []) ++ rows_of sheet (count sheet)) (long-enough sheet I (interties sheet) passes i)
          ∙ ap (λ (k : ℕ). line_of (decimal (interties sheet)) comma (k ∷ []) ++ rows_of sheet (count sheet)) (long-enough sheet H (holders sheet) passes h)
          )
          )
