-- Opening, Steps 1 to 7 (docs/RULES.md, "Opening"): a sheet is refused, or the year's state is what the steps give; the answer is T.
use Rattle.std.specs.Prelude.{ℕ, List, ltb, eqb, length}
use Rattle.base.specs.Choice.{pick}
use Rattle.base.specs.Answers.{refused, granted}
use Rattle.base.specs.Refusals.{room_refused}
use Rattle.base.specs.Words.{fill}
use Rattle.base.specs.declared.Answer.{Answer}
use Rattle.base.specs.Limits.{state_words}
use Rattle.sheet_records.specs.Sheet.{holders}
use Rattle.sheet_records.specs.Refusal.{sheet_refusal}
use Rattle.steps.specs.Inputs.{of_sheet}
use Rattle.steps.specs.Step2.{available_total, load_share_quantity}
use Rattle.opening.specs.Opened.{opened_state}

-- the answer, and the state afterwards
pub record Outcome : Type 0 where
  pub answer : Answer
  pub state : List ℕ

-- the sheet's own refusals, 1 to 4, and then 5: a state under 16,000 words
unfoldable pub open_refusal : List ℕ → List ℕ → ℕ
open_refusal sheet s = pick (eqb (sheet_refusal sheet) 0) (pick (ltb (length s) state_words) room_refused 0) (sheet_refusal sheet)

-- the call; a refusal leaves the state as it was
unfoldable pub opened : List ℕ → List ℕ → Outcome
opened sheet s =
    pick (eqb (open_refusal sheet s) 0)
    (record { answer = granted (available_total (of_sheet sheet)) 0; state = opened_state (of_sheet sheet) s })
    (record { answer = refused (open_refusal sheet s); state = s })

-- the Load Share Quantities of an opening, over the first H words of a row; the other words stay, and a refusal leaves all
unfoldable pub quantities_found : List ℕ → List ℕ → List ℕ → List ℕ
quantities_found sheet s row = pick (eqb (open_refusal sheet s) 0) (fill (holders sheet) (load_share_quantity (of_sheet sheet)) row) row
