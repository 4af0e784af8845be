-- The calls of the year that a list may have, what each gives, and the state after a list.
use Rattle.std.specs.Prelude.{ℕ, List, [], ◌∷◌}
use Rattle.base.specs.declared.Answer.{Answer}
use Rattle.call.specs.Outcome.{Outcome}
use Rattle.trading.specs.Trade as Trade
use Rattle.trading.specs.Request as Request
use Rattle.closing.specs.Close as Close
use Rattle.taking.specs.Take as Take
use Rattle.holding.specs.Move as Move
use Rattle.holding.specs.Lock as Lock

-- a call with the numbers it is given; a closing gets a grants buffer of any length and content
pub data Call : Type 0 where
  trade : (seller buyer kw : ℕ) → Call
  request : (holder intertie kw : ℕ) → Call
  close : (grants : List ℕ) → Call
  take : (holder intertie kw day : ℕ) → Call
  move : (giver taker intertie kw : ℕ) → Call
  lock : (holder intertie kw term : ℕ) → Call

-- what a call gives: its answer, the state after it, and the grants buffer when it returns; empty where the call has none
pub record Result : Type 0 where
  pub answer : Answer
  pub state : List ℕ
  pub grants : List ℕ

-- a call without a grants buffer
abbrev pub no_grants : Outcome → Result
no_grants o = record { answer = o.answer; state = o.state; grants = [] }

-- a call on the state s, by the definition that the contract of its function cites
unfoldable pub result : Call → List ℕ → Result
result (trade seller buyer kw) s = no_grants (Trade.trade s seller buyer kw)
result (request holder intertie kw) s = no_grants (Request.request s holder intertie kw)
result (close grants) s =
    record {
      answer = (Close.close s grants).answer;
      state = (Close.close s grants).state;
      grants = (Close.close s grants).grants;
    }
result (take holder intertie kw day) s = no_grants (Take.take s holder intertie kw day)
result (move giver taker intertie kw) s = no_grants (Move.move s giver taker intertie kw)
result (lock holder intertie kw term) s = no_grants (Lock.lock s holder intertie kw term)

-- the state after a list: each call works on the state as the call before it left it
unfoldable pub after : List Call → List ℕ → List ℕ
after [] s = s
after (call ∷ calls) s = after calls (result call s).state
