-- Take (stage 4), with a day number: grants the smaller of the kW named and the unassigned, into taken.
-- Two granted takings per holder and week.
use Rattle.std.specs.Prelude.{ℕ, ◌+◌, ◌-◌, min, List, eqb, set}
use Rattle.base.specs.Answers.{granted}
use Rattle.base.specs.Refusals.{no_such_refused, range_refused, day_refused, none_left_refused}
use Rattle.state.specs.Layout.{last_day_at, last_day_of, unassigned_at, unassigned_of}
use Rattle.state.specs.Layout.{last_week_at, last_week_of, takings_at, takings_of, taken_at, taken_of}
use Rattle.call.specs.Outcome.{Outcome, decided, or_else, whenever}
use Rattle.call.specs.Tests.{open_refusal, no_pair, bad_kw}
use Rattle.taking.specs.declared.Calendar.{Calendar}
use Rattle.taking.specs.Calendar.{refuses_day, after_taking}

-- the calendar of a holder in a state
abbrev pub calendar_of : List ℕ → ℕ → Calendar
calendar_of s h = record { last_day = last_day_of s; week = last_week_of s h; count = takings_of s h }

-- the lowest number that applies, 0 if none
unfoldable pub take_refusal : List ℕ → ℕ → ℕ → ℕ → ℕ → ℕ
take_refusal s h i kw day =
    or_else (open_refusal s)
    (or_else (whenever (no_pair s h i) no_such_refused)
    (or_else (whenever (bad_kw kw) range_refused)
    (or_else (whenever (refuses_day (calendar_of s h) day) day_refused)
    (whenever (eqb (unassigned_of s i) 0) none_left_refused))))

-- the kW granted
abbrev pub take_kw : List ℕ → ℕ → ℕ → ℕ
take_kw s i kw = min kw (unassigned_of s i)

-- a holder's calendar written into a state
abbrev pub with_calendar : List ℕ → ℕ → Calendar → List ℕ
with_calendar s h c = set (set (set s last_day_at c.last_day) (last_week_at h) c.week) (takings_at h) c.count

-- the state after the taking
unfoldable pub take_state : List ℕ → ℕ → ℕ → ℕ → ℕ → List ℕ
take_state s h i kw day =
    with_calendar
    (set
    (set s (unassigned_at i) (unassigned_of s i - take_kw s i kw))
    (taken_at h i) (taken_of s h i + take_kw s i kw))
    h (after_taking (calendar_of s h) day)

-- the call: a refusal leaves the state as it was
unfoldable pub take : List ℕ → ℕ → ℕ → ℕ → ℕ → Outcome
take s h i kw day =
    decided (take_refusal s h i kw day) s (record { answer = granted (take_kw s i kw) 0; state = take_state s h i kw day })
