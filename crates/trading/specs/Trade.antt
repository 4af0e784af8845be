-- Trade (stage 1): unplaced kW from one holder to another; the seller joins the buyer's sellers, and is counted once however often it sold.
use Rattle.std.specs.Prelude.{ℕ, ◌+◌, ◌-◌, ◌/◌, ◌%◌, ◌^◌, List, not, ltb, eqb, set}
use Rattle.base.specs.Choice.{pick}
use Rattle.base.specs.Answers.{granted}
use Rattle.base.specs.Refusals.{stage_refused, no_such_refused, range_refused, too_much_refused}
use Rattle.base.specs.Stages.{trading_stage}
use Rattle.state.specs.Layout.{stage_of, unplaced_at, unplaced_of, sellers_at, sellers_of}
use Rattle.state.specs.Orderly.{state_refusal}
use Rattle.call.specs.Outcome.{Outcome, decided, or_else, whenever}
use Rattle.call.specs.Tests.{unfit_parties, bad_kw}

-- the lowest number that applies, 0 if none
unfoldable pub trade_refusal : List ℕ → ℕ → ℕ → ℕ → ℕ
trade_refusal s seller buyer kw =
    or_else (state_refusal s)
    (or_else (whenever (not (eqb (stage_of s) trading_stage)) stage_refused)
    (or_else (whenever (unfit_parties s seller buyer) no_such_refused)
    (or_else (whenever (bad_kw kw) range_refused)
    (whenever (ltb (unplaced_of s seller) kw) too_much_refused))))

-- a mask of sellers with one more: bit j stands for holder j
abbrev pub with_seller : ℕ → ℕ → ℕ
with_seller mask seller = pick (eqb (mask / 2 ^ seller % 2) 1) mask (mask + 2 ^ seller)

-- the state after the trade
unfoldable pub trade_state : List ℕ → ℕ → ℕ → ℕ → List ℕ
trade_state s seller buyer kw =
    set
    (set
    (set s (unplaced_at seller) (unplaced_of s seller - kw))
    (unplaced_at buyer) (unplaced_of s buyer + kw))
    (sellers_at buyer) (with_seller (sellers_of s buyer) seller)

-- the call: a refusal leaves the state as it was
unfoldable pub trade : List ℕ → ℕ → ℕ → ℕ → Outcome
trade s seller buyer kw =
    decided (trade_refusal s seller buyer kw) s (record { answer = granted kw 0; state = trade_state s seller buyer kw })
