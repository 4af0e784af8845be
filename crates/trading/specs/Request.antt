-- Request (stages 2 and 3): adds to pending; all pending may not pass unplaced.
use Rattle.std.specs.Prelude.{ℕ, ◌+◌, List, not, ◌||◌, ltb, eqb, set}
use Rattle.base.specs.Answers.{granted}
use Rattle.base.specs.Refusals.{stage_refused, no_such_refused, range_refused, too_much_refused}
use Rattle.base.specs.Stages.{first_requests_stage, second_requests_stage}
use Rattle.state.specs.Layout.{stage_of, unplaced_of, pending_at, pending_of, of_holder}
use Rattle.state.specs.Orderly.{state_refusal}
use Rattle.call.specs.Outcome.{Outcome, decided, or_else, whenever}
use Rattle.call.specs.Tests.{no_pair, bad_kw}

-- the lowest number that applies, 0 if none
unfoldable pub request_refusal : List ℕ → ℕ → ℕ → ℕ → ℕ
request_refusal s h i kw =
    or_else (state_refusal s)
    (or_else (whenever (not (eqb (stage_of s) first_requests_stage || eqb (stage_of s) second_requests_stage)) stage_refused)
    (or_else (whenever (no_pair s h i) no_such_refused)
    (or_else (whenever (bad_kw kw) range_refused)
    (whenever (ltb (unplaced_of s h) (of_holder pending_of s h + kw)) too_much_refused))))

-- the state after the request
unfoldable pub request_state : List ℕ → ℕ → ℕ → ℕ → List ℕ
request_state s h i kw = set s (pending_at h i) (pending_of s h i + kw)

-- the call: a refusal leaves the state as it was
unfoldable pub request : List ℕ → ℕ → ℕ → ℕ → Outcome
request s h i kw = decided (request_refusal s h i kw) s (record { answer = granted kw 0; state = request_state s h i kw })
