-- Close (stages 1 to 3): in 2 and 3, each intertie's unassigned kW is shared out over pending. Grants go from unassigned to placed
-- and leave unplaced; pending becomes 0; stage rises by one.
use Rattle.std.specs.Prelude.{ℕ, ◌+◌, ◌-◌, ◌*◌, ◌/◌, ◌%◌, List, Bool, not, ◌&&◌, ◌||◌, leb, ltb, eqb, length, set}
use Rattle.base.specs.Choice.{pick}
use Rattle.base.specs.Sums.{sum_to}
use Rattle.base.specs.Words.{fill}
use Rattle.base.specs.Answers.{refused, granted}
use Rattle.base.specs.declared.Answer.{Answer}
use Rattle.base.specs.Limits.{grants_words}
use Rattle.base.specs.Refusals.{room_refused, stage_refused}
use Rattle.base.specs.Stages.{trading_stage, first_requests_stage, second_requests_stage}
use Rattle.intertie_shares.specs.Rule.{grant_on, kw_over, passes_over}
use Rattle.state.specs.Layout.{interties, holders, stage_at, stage_of, unassigned_of, unplaced_of, placed_of, pending_of}
use Rattle.state.specs.Orderly.{state_refusal}
use Rattle.state.specs.Layout.{unassigned_row, unplaced_row, placed_row, pending_row}
use Rattle.state_rows.specs.Rows.{fill_row, fill_pairs}
use Rattle.call.specs.Outcome.{or_else, whenever}
use Rattle.weights.specs.Weight.{weight_of}

-- the lowest number that applies, 0 if none: 5 for short grants or a short state, 6, 7
unfoldable pub close_refusal : List ℕ → List ℕ → ℕ
close_refusal s grants =
    or_else (whenever (ltb (length grants) grants_words) room_refused)
    (or_else (state_refusal s)
    (whenever (not (leb trading_stage (stage_of s) && leb (stage_of s) second_requests_stage)) stage_refused))

module _ (s : List ℕ) where
  -- stages 2 and 3
  abbrev pub shares_out : Bool
  shares_out = eqb (stage_of s) first_requests_stage || eqb (stage_of s) second_requests_stage

  -- the kW that this closing grants holder h on intertie i
  unfoldable pub close_grant : ℕ → ℕ → ℕ
  close_grant h i = pick shares_out (grant_on (holders s) (unassigned_of s) (pending_of s) (weight_of s) h i) 0

  -- kW and passes over all interties
  unfoldable pub close_kw : ℕ
  close_kw = pick shares_out (kw_over (holders s) (unassigned_of s) (pending_of s) (weight_of s) (interties s)) 0

  unfoldable pub close_passes : ℕ
  close_passes = pick shares_out (passes_over (holders s) (unassigned_of s) (pending_of s) (weight_of s) (interties s)) 0

  -- all that holder h is granted, and all that is granted on intertie i
  abbrev pub granted_to : ℕ → ℕ
  granted_to h = sum_to (interties s) (λ i. close_grant h i)

  abbrev pub granted_on : ℕ → ℕ
  granted_on i = sum_to (holders s) (λ h. close_grant h i)

  -- the state after the closing
  unfoldable pub close_state : List ℕ
  close_state =
      set
      (fill_pairs pending_row (holders s) (interties s) (λ h i. 0)
      (fill_pairs placed_row (holders s) (interties s) (λ h i. placed_of s h i + close_grant h i)
      (fill_row unplaced_row (holders s) (λ h. unplaced_of s h - granted_to h)
      (fill_row unassigned_row (interties s) (λ i. unassigned_of s i - granted_on i) s))))
      stage_at (stage_of s + 1)

  -- the grants buffer after it: word h·I + i has the kW of holder h on intertie i; later words stay
  unfoldable pub close_grants : List ℕ → List ℕ
  close_grants grants = fill (holders s * interties s) (λ p. close_grant (p / interties s) (p % interties s)) grants

-- what a closing gives: its answer, and the state and the grants buffer after it
pub record Closed : Type 0 where
  pub answer : Answer
  pub state : List ℕ
  pub grants : List ℕ

-- the call: a refusal leaves the state and the grants as they were
unfoldable pub close : List ℕ → List ℕ → Closed
close s grants =
    pick (eqb (close_refusal s grants) 0)
    (record { answer = granted (close_kw s) (close_passes s); state = close_state s; grants = close_grants s grants })
    (record { answer = refused (close_refusal s grants); state = s; grants = grants })
