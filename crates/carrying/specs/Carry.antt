-- Carry: next year's sheet, from this year's sheet and state (docs/RULES.md, "Beside the year").
use Rattle.std.specs.Prelude.{ℕ, Bool, ◌&&◌, ◌||◌, not, List, eqb, ltb, leb, length}
use Rattle.base.specs.Choice.{pick}
use Rattle.base.specs.Sums.{all_to}
use Rattle.base.specs.Limits.{most_records, most_rank}
use Rattle.base.specs.Stages.{open_stage}
use Rattle.base.specs.Refusals.{stage_refused, carry_refused}
use Rattle.base.specs.Answers.{refused, granted}
use Rattle.base.specs.declared.Answer.{Answer}
use Rattle.sheet_records.specs.Sheet as Sheet
use Rattle.sheet_records.specs.Sheet.{size_of}
use Rattle.sheet_records.specs.Bytes.{with_sheet}
use Rattle.sheet_records.specs.Refusal.{sheet_refusal}
use Rattle.state.specs.Layout as Layout
use Rattle.state.specs.Orderly.{state_refusal}
use Rattle.call.specs.Outcome.{or_else, whenever}
use Rattle.carrying.specs.NextRecord.{NextRecord}
use Rattle.carrying.specs.NextRecords.{highest, next_records}
use Rattle.carrying.specs.NewSheet.{new_sheet}

-- refusals 1 to 4 of the old sheet, 5 and 6 of the state, 7 where the stage is not 4
unfoldable pub early_refusal : List ℕ → List ℕ → ℕ
early_refusal sheet state =
    or_else (sheet_refusal sheet) (or_else (state_refusal state) (whenever (not (eqb (Layout.stage_of state) open_stage)) stage_refused))

-- refusal 14: the sheet's sizes differ from the state's
unfoldable pub sizes_differ : List ℕ → List ℕ → Bool
sizes_differ sheet state =
    not (eqb (Sheet.interties sheet) (Layout.interties state) && eqb (Sheet.holders sheet) (Layout.holders state))

-- refusal 14: over 1,024 records; a holder's rank over 255; an output that is too short
unfoldable pub does_not_fit : ℕ → List NextRecord → ℕ → Bool
does_not_fit H records room =
    ltb most_records (length records)
    || not (all_to H (λ h. leb (highest h records) most_rank))
    || ltb room (size_of (length records))

-- the lowest refusal that applies, 0 where the sheet is carried
unfoldable pub carry_refusal : List ℕ → List ℕ → List ℕ → ℕ
carry_refusal sheet state output =
    or_else (early_refusal sheet state)
    (whenever (sizes_differ sheet state || does_not_fit (Layout.holders state) (next_records sheet state) (length output)) carry_refused)

-- what carry answers, and what stands in the output then
pub record Carried : Type 0 where
  pub answer : Answer
  pub output : List ℕ

-- next year's sheet in the first bytes of the output; its later bytes stay, and a refusal leaves them all
unfoldable pub carried : List ℕ → List ℕ → List ℕ → Carried
carried sheet state output =
    pick (eqb (carry_refusal sheet state output) 0)
    (record {
      answer = granted 0 0;
      output =
          with_sheet (new_sheet (Layout.interties state) (Layout.holders state) (next_records sheet state)) output;
    })
    (record { answer = refused (carry_refusal sheet state output); output = output })
