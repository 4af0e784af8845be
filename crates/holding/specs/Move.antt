-- Move (stages 3 and 4): placed kW above locked, from holder to holder on an intertie.
use Rattle.std.specs.Prelude.{ℕ, ◌+◌, ◌-◌, List, not, ◌||◌, ltb, eqb, set}
use Rattle.base.specs.Answers.{granted}
use Rattle.base.specs.Refusals.{stage_refused, no_such_refused, range_refused, too_much_refused}
use Rattle.base.specs.Stages.{second_requests_stage, open_stage}
use Rattle.state.specs.Layout.{stage_of, placed_at, placed_of, locked_of}
use Rattle.state.specs.Orderly.{state_refusal}
use Rattle.call.specs.Outcome.{Outcome, decided, or_else, whenever}
use Rattle.call.specs.Tests.{no_intertie, unfit_parties, bad_kw}

-- the lowest number that applies, 0 if none
unfoldable pub move_refusal : List ℕ → ℕ → ℕ → ℕ → ℕ → ℕ
move_refusal s giver taker i kw =
    or_else (state_refusal s)
    (or_else (whenever (not (eqb (stage_of s) second_requests_stage || eqb (stage_of s) open_stage)) stage_refused)
    (or_else (whenever (unfit_parties s giver taker || no_intertie s i) no_such_refused)
    (or_else (whenever (bad_kw kw) range_refused)
    (whenever (ltb (placed_of s giver i - locked_of s giver i) kw) too_much_refused))))

-- the state after the move
unfoldable pub move_state : List ℕ → ℕ → ℕ → ℕ → ℕ → List ℕ
move_state s giver taker i kw =
    set
    (set s (placed_at giver i) (placed_of s giver i - kw))
    (placed_at taker i) (placed_of s taker i + kw)

-- the call: a refusal leaves the state as it was
unfoldable pub move : List ℕ → ℕ → ℕ → ℕ → ℕ → Outcome
move s giver taker i kw =
    decided (move_refusal s giver taker i kw) s (record { answer = granted kw 0; state = move_state s giver taker i kw })
