-- What each call changes and adds, granted or refused.
use Prim.Native.Nat.{ℕ}
use mathlib.Core.Path.{◌≡◌, refl}
use mathlib.Core.List.{List}
use native.Mathlib.Decide.{ℕ_discrete}
use borrow.Author.Tests.{eq-eqb, ne_eqb}
use Rattle.base.specs.Answers.{refused, granted}
use Rattle.state.specs.Layout.{interties}
use Rattle.call.specs.Outcome.{Outcome, decided}
use Rattle.call.proofs.LadderLaws.{decided-done, decided-refused}
use Rattle.trading.specs.Trade as Trade
use Rattle.trading.specs.Request as Request
use Rattle.taking.specs.Take as Take
use Rattle.holding.specs.Move as Move
use Rattle.holding.specs.Lock as Lock
use Rattle.closing.specs.Close as Close
use Rattle.trading.proofs.TradeLaws.{trade-done}
use Rattle.trading.proofs.RequestLaws.{request-done}
use Rattle.taking.proofs.TakeLaws.{take_done}
use Rattle.holding.proofs.MoveLaws.{move-done}
use Rattle.holding.proofs.LockLaws.{lock-done}
use Rattle.closing.proofs.CloseLaws.{close-done, close-granted, close-refused}
use Rattle.balances.specs.Calls.{Call, trade, request, close, take, move, lock, Result, no_grants, result}
use Rattle.balances.specs.Amounts.{bought_in, sold_in, closed_in, taken_in, locked_in, added}
use Rattle.balances.proofs.ChangeLaws.{Added, Ready, Change, change-none}
use Rattle.balances.proofs.GrantedLaws.{by_close, granted-trade, granted-request, granted-take, granted-move, granted-lock, granted-close}

-- what a call with a result names, and what it adds: nothing where it is refused
abbrev pub amounts : ℕ → Call → Result → Added
amounts I c r =
    record {
      bought = λ h. bought_in h c r;
      sold = λ h. sold_in h c r;
      locked = λ h. locked_in h c r;
      closed = λ h i. closed_in I h i c r;
      taken = λ i. taken_in i c r;
    }

abbrev pub added_by : ℕ → Call → Result → Added
added_by I c r =
    record {
      bought = λ h. added r (bought_in h c r);
      sold = λ h. added r (sold_in h c r);
      locked = λ h. added r (locked_in h c r);
      closed = λ h i. added r (closed_in I h i c r);
      taken = λ i. added r (taken_in i c r);
    }

pub change-granted : (I : ℕ) (c : Call) {s : List ℕ} (r : Result) → r.answer.refusal ≡ 0 → Change s r.state (amounts I c r) → Change s r.state (added_by I c r)
change-granted I c r e change = rw (eq-eqb r.answer.refusal 0 e) change

pub change-refused : (I : ℕ) (c : Call) {s : List ℕ} (r : Result) → Ready s → (r.answer.refusal ≡ 0 → ⊥) → r.state ≡ s → Change s r.state (added_by I c r)
change-refused I c r ready some same = rw (ne_eqb r.answer.refusal 0 some, same) (change-none ready)

-- a call that is decided by its number
by_number : (I : ℕ) (c : Call) (s : List ℕ) (n : ℕ) (done : Outcome) → Ready s → done.answer.refusal ≡ 0 → (n ≡ 0 → Change s done.state (amounts I c (no_grants done))) → Change s (decided n s done).state (added_by I c (no_grants (decided n s done)))
by_number I c s n done ready zero change =
    elim (ℕ_discrete n 0) [
      | yes e ↦ rw (decided-done n s done e) (change-granted I c (no_grants done) zero (change e))
      | no some ↦ rw (decided-refused n s done some) (change-refused I c (no_grants (record { answer = refused n; state = s })) ready some refl)
    ]

module _ (I : ℕ) {s : List ℕ} (ready : Ready s) where
  -- what a call changes and adds
  abbrev pub Changes : Call → Type 0
  Changes c = Change s (result c s).state (added_by I c (result c s))

  change-trade : (seller buyer kw : ℕ) → Changes (trade seller buyer kw)
  unfolding result Trade.trade bought_in sold_in locked_in closed_in taken_in
  change-trade seller buyer kw =
      by_number I (trade seller buyer kw) s (Trade.trade_refusal s seller buyer kw) (record { answer = granted kw 0; state = Trade.trade_state s seller buyer kw }) ready refl
      (λ e. granted-trade (trade-done s seller buyer kw e))

  change-request : (h i kw : ℕ) → Changes (request h i kw)
  unfolding result Request.request bought_in sold_in locked_in closed_in taken_in
  change-request h i kw =
      by_number I (request h i kw) s (Request.request_refusal s h i kw) (record { answer = granted kw 0; state = Request.request_state s h i kw }) ready refl
      (λ e. granted-request (request-done s h i kw e))

  change-take : (h i kw day : ℕ) → Changes (take h i kw day)
  unfolding result Take.take bought_in sold_in locked_in closed_in taken_in
  change-take h i kw day =
      by_number I (take h i kw day) s (Take.take_refusal s h i kw day) (record { answer = granted (Take.take_kw s i kw) 0; state = Take.take_state s h i kw day }) ready refl
      (λ e. granted-take (take_done s h i kw day e))

  change-move : (giver taker i kw : ℕ) → Changes (move giver taker i kw)
  unfolding result Move.move bought_in sold_in locked_in closed_in taken_in
  change-move giver taker i kw =
      by_number I (move giver taker i kw) s (Move.move_refusal s giver taker i kw) (record { answer = granted kw 0; state = Move.move_state s giver taker i kw }) ready refl
      (λ e. granted-move (move-done s giver taker i kw e))

  change-lock : (h i kw term : ℕ) → Changes (lock h i kw term)
  unfolding result Lock.lock bought_in sold_in locked_in closed_in taken_in
  change-lock h i kw term =
      by_number I (lock h i kw term) s (Lock.lock_refusal s h i kw term) (record { answer = granted kw 0; state = Lock.lock_state s h i kw term }) ready refl
      (λ e. granted-lock (lock-done s h i kw term e))

  -- the grants buffer's words stand by the I of the state
  change-close : interties s ≡ I → (g : List ℕ) → Changes (close g)
  unfolding result bought_in sold_in locked_in closed_in taken_in
  change-close size g =
      elim (ℕ_discrete (Close.close_refusal s g) 0) [
        | yes e ↦
            let done : Change s (Close.close_state s) (by_close (interties s) (Close.close_grants s g)) = granted-close (close-done s g e) in
            rw (close-granted s g e)
            (change-granted I (close g) (record { answer = granted (Close.close_kw s) (Close.close_passes s); state = Close.close_state s; grants = Close.close_grants s g }) refl
            (rw size at done))
        | no some ↦
            rw (close-refused s g some)
            (change-refused I (close g) (record { answer = refused (Close.close_refusal s g); state = s; grants = g }) ready some refl)
      ]

  pub change-call : interties s ≡ I → (c : Call) → Changes c
  change-call size (trade seller buyer kw) = change-trade seller buyer kw
  change-call size (request h i kw) = change-request h i kw
  change-call size (close g) = change-close size g
  change-call size (take h i kw day) = change-take h i kw day
  change-call size (move giver taker i kw) = change-move giver taker i kw
  change-call size (lock h i kw term) = change-lock h i kw term
