-- Lock (stage 4), term 1 to 30 years: placed kW; one lock per pair; 4 × (reserved + all locked) at most 3 × Step 7 total.
use Rattle.std.specs.Prelude.{ℕ, ◌+◌, ◌*◌, List, Bool, ◌||◌, ltb, set}
use Rattle.base.specs.Answers.{granted}
use Rattle.base.specs.Refusals.{no_such_refused, range_refused, too_much_refused, lock_refused}
use Rattle.state.specs.Layout.{step7_total_of, reserved_of, placed_of, locked_at, locked_of, term_at, of_holder}
use Rattle.call.specs.Outcome.{Outcome, decided, or_else, whenever}
use Rattle.call.specs.Tests.{open_refusal, no_pair, bad_kw, bad_term}

-- three quarters passed, with kW more
abbrev pub past_three_quarters : List ℕ → ℕ → ℕ → Bool
past_three_quarters s h kw = ltb (3 * step7_total_of s h) (4 * (reserved_of s h + (of_holder locked_of s h + kw)))

-- the lowest number that applies, 0 if none
unfoldable pub lock_refusal : List ℕ → ℕ → ℕ → ℕ → ℕ → ℕ
lock_refusal s h i kw term =
    or_else (open_refusal s)
    (or_else (whenever (no_pair s h i) no_such_refused)
    (or_else (whenever (bad_kw kw || bad_term term) range_refused)
    (or_else (whenever (ltb (placed_of s h i) kw) too_much_refused)
    (whenever (ltb 0 (locked_of s h i) || past_three_quarters s h kw) lock_refused))))

-- the state after the lock
unfoldable pub lock_state : List ℕ → ℕ → ℕ → ℕ → ℕ → List ℕ
lock_state s h i kw term = set (set s (locked_at h i) kw) (term_at h i) term

-- the call: a refusal leaves the state as it was
unfoldable pub lock : List ℕ → ℕ → ℕ → ℕ → ℕ → Outcome
lock s h i kw term =
    decided (lock_refusal s h i kw term) s (record { answer = granted kw 0; state = lock_state s h i kw term })
