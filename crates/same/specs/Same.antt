-- Same (docs/RULES.md, "Beside the year"): yes, else no, exactly when two sheets open to equal states (all named words), with 0 kW and
-- 0 passes; the first's refusal comes before the second's.
use Rattle.std.specs.Prelude.{ℕ, List, Bool, false, eqb, replicate, Result, Ok, Err}
use Rattle.base.specs.Choice.{pick}
use Rattle.base.specs.Sums.{all_to}
use Rattle.base.specs.Words.{at}
use Rattle.base.specs.Limits.{state_words}
use Rattle.base.specs.Refused.{number_of}
use Rattle.base.specs.declared.refusals.Refusal.{Refusal}
use Rattle.sheet_records.specs.Refusal.{sheet_refusal}
use Rattle.steps.specs.Inputs.{of_sheet}
use Rattle.opening.specs.Opened.{opened_state}
use Rattle.same.specs.declared.Verdict.{Verdict}

-- the state that a sheet opens to over zeros. Over other words the named words are the same (`proofs/SameLaws`, same-everywhere)
unfoldable pub year_of : List ℕ → List ℕ
year_of sheet = opened_state (of_sheet sheet) (replicate state_words 0)

-- whether two sheets open to equal states
unfoldable pub open_alike : List ℕ → List ℕ → Bool
open_alike first second = all_to state_words (λ p. eqb (at (year_of first) p) (at (year_of second) p))

-- a sheet is refused: no verdict
abbrev pub refused_verdict : ℕ → Verdict
refused_verdict number = record { refusal = number; same = false; kw = 0; passes = 0 }

-- both stand: yes or no
abbrev pub verdict : Bool → Verdict
verdict alike = record { refusal = 0; same = alike; kw = 0; passes = 0 }

-- the verdict that an outcome is
abbrev pub verdict_of : Result Bool Refusal → Verdict
verdict_of (Ok alike) = verdict alike
verdict_of (Err refusal) = refused_verdict (number_of refusal)

-- the call
unfoldable pub compared : List ℕ → List ℕ → Verdict
compared first second =
    pick (eqb (sheet_refusal first) 0)
    (pick (eqb (sheet_refusal second) 0) (verdict (open_alike first second)) (refused_verdict (sheet_refusal second)))
    (refused_verdict (sheet_refusal first))
