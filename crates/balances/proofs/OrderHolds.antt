-- Every call, granted or refused, keeps an orderly state orderly, and so does every list of calls.
use Prim.Native.Nat.{ℕ}
use mathlib.Core.Path.{◌≡◌, refl, sym, ◌∙◌}
use mathlib.Core.List.{List, [], ◌∷◌}
use native.Mathlib.Decide.{ℕ_discrete}
use Rattle.base.specs.Answers.{granted}
use Rattle.state.specs.Orderly.{state_refusal}
use Rattle.state.proofs.OrderlyLaws.{none-refused}
use Rattle.call.specs.Outcome.{Outcome, decided}
use Rattle.call.proofs.LadderLaws.{decided-done, decided-refused}
use Rattle.trading.specs.Trade as Trade
use Rattle.trading.specs.Request as Request
use Rattle.taking.specs.Take as Take
use Rattle.holding.specs.Move as Move
use Rattle.holding.specs.Lock as Lock
use Rattle.closing.specs.Close as Close
use Rattle.trading.proofs.TradeLaws.{trade-done}
use Rattle.trading.proofs.RequestLaws.{request-done}
use Rattle.taking.proofs.TakeLaws.{take_done}
use Rattle.holding.proofs.MoveLaws.{move-done}
use Rattle.holding.proofs.LockLaws.{lock-done}
use Rattle.closing.proofs.CloseLaws.{close-done, close-granted, close-refused}
use Rattle.balances.specs.Calls.{Call, trade, request, close, take, move, lock, result, after}
use Rattle.balances.specs.Order.{CallsKeepOrder, ListsKeepOrder, YearInOrder}
use Rattle.balances.proofs.ChangeLaws.{Added, Ready, Change}
use Rattle.balances.proofs.GrantedLaws.{granted-trade, granted-request, granted-take, granted-move, granted-lock, granted-close}
use Rattle.balances.proofs.BalancesHold.{opening-ready}

-- two states that calls may be made on
ready-refusal : {s : List ℕ} → Ready s → state_refusal s ≡ 0
ready-refusal r = none-refused r.long r.orderly

both-ready : {s t : List ℕ} {a : Added} → Ready s → Change s t a → state_refusal t ≡ state_refusal s
both-ready before change = ready-refusal change.ready ∙ sym (ready-refusal before)

-- a call that is decided by its number: a refused one leaves the state
by_number : (s : List ℕ) (n : ℕ) (done : Outcome) → (n ≡ 0 → state_refusal done.state ≡ state_refusal s) →
    state_refusal (decided n s done).state ≡ state_refusal s
by_number s n done same =
    elim (ℕ_discrete n 0) [
      | yes e ↦ rw (decided-done n s done e) (same e)
      | no some ↦ rw (decided-refused n s done some) refl
    ]

module _ (s : List ℕ) where
  abbrev Keeps : Call → Type 0
  Keeps call = state_refusal (result call s).state ≡ state_refusal s

  keeps-trade : (seller buyer kw : ℕ) → Keeps (trade seller buyer kw)
  unfolding result Trade.trade
  keeps-trade seller buyer kw =
      by_number s (Trade.trade_refusal s seller buyer kw) (record { answer = granted kw 0; state = Trade.trade_state s seller buyer kw })
      (λ e. let d = trade-done s seller buyer kw e in both-ready (record { long = d.long; orderly = d.orderly }) (granted-trade d))

  keeps-request : (h i kw : ℕ) → Keeps (request h i kw)
  unfolding result Request.request
  keeps-request h i kw =
      by_number s (Request.request_refusal s h i kw) (record { answer = granted kw 0; state = Request.request_state s h i kw })
      (λ e. let d = request-done s h i kw e in both-ready (record { long = d.long; orderly = d.orderly }) (granted-request d))

  keeps-take : (h i kw day : ℕ) → Keeps (take h i kw day)
  unfolding result Take.take
  keeps-take h i kw day =
      by_number s (Take.take_refusal s h i kw day) (record { answer = granted (Take.take_kw s i kw) 0; state = Take.take_state s h i kw day })
      (λ e. let d = take_done s h i kw day e in both-ready (record { long = d.long; orderly = d.orderly }) (granted-take d))

  keeps-move : (giver taker i kw : ℕ) → Keeps (move giver taker i kw)
  unfolding result Move.move
  keeps-move giver taker i kw =
      by_number s (Move.move_refusal s giver taker i kw) (record { answer = granted kw 0; state = Move.move_state s giver taker i kw })
      (λ e. let d = move-done s giver taker i kw e in both-ready (record { long = d.long; orderly = d.orderly }) (granted-move d))

  keeps-lock : (h i kw term : ℕ) → Keeps (lock h i kw term)
  unfolding result Lock.lock
  keeps-lock h i kw term =
      by_number s (Lock.lock_refusal s h i kw term) (record { answer = granted kw 0; state = Lock.lock_state s h i kw term })
      (λ e. let d = lock-done s h i kw term e in both-ready (record { long = d.long; orderly = d.orderly }) (granted-lock d))

  keeps-close : (g : List ℕ) → Keeps (close g)
  unfolding result
  keeps-close g =
      elim (ℕ_discrete (Close.close_refusal s g) 0) [
        | yes e ↦
            let d = close-done s g e in
            rw (close-granted s g e) (both-ready (record { long = d.long; orderly = d.orderly }) (granted-close d))
        | no some ↦ rw (close-refused s g some) refl
      ]

pub calls-keep-order : CallsKeepOrder
calls-keep-order (trade seller buyer kw) s = keeps-trade s seller buyer kw
calls-keep-order (request h i kw) s = keeps-request s h i kw
calls-keep-order (close g) s = keeps-close s g
calls-keep-order (take h i kw day) s = keeps-take s h i kw day
calls-keep-order (move giver taker i kw) s = keeps-move s giver taker i kw
calls-keep-order (lock h i kw term) s = keeps-lock s h i kw term

pub lists-keep-order : ListsKeepOrder
unfolding after
lists-keep-order [] s = refl
lists-keep-order (call ∷ calls) s = lists-keep-order calls (result call s).state ∙ calls-keep-order call s

pub year-in-order : YearInOrder
year-in-order sheet words calls e = lists-keep-order calls _ ∙ ready-refusal (opening-ready sheet words e)
