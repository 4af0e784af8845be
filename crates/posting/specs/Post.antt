-- Program `post` (docs/RULES.md, "Beside the year"), as numbers: T; for each intertie its limit, outside, E, P, N, unassigned; for each
-- holder its load share, Load Share Quantity, reserved, Step 5 share. A figure has a row (`Rows`), whose columns are the interties or
-- the holders.
use Rattle.std.specs.Prelude.{ℕ, List, eqb}
use Rattle.base.specs.Choice.{pick}
use Rattle.base.specs.Sums.{sum_to}
use Rattle.base.specs.Answers.{refused, granted}
use Rattle.base.specs.declared.Answer.{Answer}
use Rattle.sheet_records.specs.Refusal.{sheet_refusal}
use Rattle.state_rows.specs.Rows.{fill_row}
use Rattle.posting.specs.Rows.{limit_line, outside_line, existing_line, pre_ra_line, new_use_line, unassigned_line}
use Rattle.posting.specs.Rows.{load_share_line, quantity_line, reserved_line, step5_share_line}
use Rattle.steps.specs.Inputs.{Inputs, of_sheet}
use Rattle.steps.specs.Step2.{available_total, load_share_quantity}
use Rattle.steps.specs.Step4a.{existing_on, pre_ra_granted}
use Rattle.steps.specs.Step4b.{new_use_granted}
use Rattle.steps.specs.Step5to7.{held, step5_share, unassigned}

module _ (y : Inputs) where
  -- P and N of all holders on intertie i
  unfoldable pub pre_ra_on : ℕ → ℕ
  pre_ra_on i = sum_to y.holders (λ h. pre_ra_granted y h i)

  unfoldable pub new_use_on : ℕ → ℕ
  new_use_on i = sum_to y.holders (λ h. new_use_granted y h i)

  -- limit, outside, E, P, N, unassigned
  unfoldable pub intertie_lines : List ℕ → List ℕ
  intertie_lines l =
      fill_row unassigned_line y.interties (unassigned y)
      (fill_row new_use_line y.interties new_use_on
      (fill_row pre_ra_line y.interties pre_ra_on
      (fill_row existing_line y.interties (existing_on y)
      (fill_row outside_line y.interties y.outside
      (fill_row limit_line y.interties y.limit l)))))

  -- load share, Load Share Quantity, reserved, Step 5 share
  unfoldable pub holder_lines : List ℕ → List ℕ
  holder_lines l =
      fill_row step5_share_line y.holders (step5_share y)
      (fill_row reserved_line y.holders (held y)
      (fill_row quantity_line y.holders (load_share_quantity y)
      (fill_row load_share_line y.holders y.load_share l)))

-- the answer, and the rows afterwards
pub record Posted : Type 0 where
  pub answer : Answer
  pub lines : List ℕ

-- the call: T and the lines, or the sheet's refusal, which leaves them as they were
unfoldable pub posted : List ℕ → List ℕ → Posted
posted sheet l =
    pick (eqb (sheet_refusal sheet) 0)
    (record {
      answer = granted (available_total (of_sheet sheet)) 0;
      lines = holder_lines (of_sheet sheet) (intertie_lines (of_sheet sheet) l);
    })
    (record { answer = refused (sheet_refusal sheet); lines = l })
