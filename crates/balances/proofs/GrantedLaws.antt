-- What each call that isn't refused changes, and what it adds.
use Prim.Native.Nat.{ℕ, ◌+◌, ◌*◌, ◌≤◌, ◌<◌}
use mathlib.Core.Path.{◌≡◌, refl}
use mathlib.Core.List.{List}
use mathlib.Core.Logic.{◌≢◌}
use native.Mathlib.Decide.{ℕ_discrete}
use native.Mathlib.Omega.{arith}
use lib.Dec.{eqb}
use borrow.Author.Tests.{eq-eqb, ne_eqb}
use Rattle.base.specs.Choice.{pick}
use Rattle.base.specs.Sums.{sum_to}
use Rattle.base.specs.Words.{at}
use Rattle.base.proofs.SumLaws.{sum_to-same, sum_to-zeros}
use Rattle.state.specs.Layout.{interties, holders, step7_total_of, reserved_of, unassigned_of, locked_of, of_holder}
use Rattle.state.proofs.OrderlyLaws.{Orderly}
use Rattle.trading.specs.Trade.{trade_state}
use Rattle.trading.specs.Request.{request_state}
use Rattle.taking.specs.Take.{take_kw, take_state}
use Rattle.holding.specs.Move.{move_state}
use Rattle.holding.specs.Lock.{lock_state}
use Rattle.closing.specs.Close.{close_grant, close_state, close_grants}
use Rattle.trading.proofs.KeepLaws.{opening-same, unassigned-same, locked-sum-same}
use Rattle.trading.proofs.TradeLaws.{Tradable, trade-length, trade-others, trade-unplaced, trade-keeps-orderly}
use Rattle.trading.proofs.RequestLaws.{Requestable, request-length, request-others, request-unplaced, request-keeps-orderly}
use Rattle.taking.proofs.TakeLaws.{TakeDone, take-length, take-opening, take-unplaced, take-unassigned, take-other-unassigned, take-locked-sum, take-orderly}
use Rattle.holding.proofs.MoveLaws.{MoveDone, move-length, move-opening, move-unplaced, move-unassigned, move-locked-sum, move-orderly}
use Rattle.holding.proofs.LockLaws.{LockDone, lock-length, lock-opening, lock-unplaced, lock-unassigned, lock-locked-sum, lock-other-sum, lock-three-quarters, lock-orderly}
use Rattle.closing.proofs.CloseLaws.{CloseDone, close-length, close-opening, close-unassigned, close-unplaced, close-locked-sum, close-orderly, close-grants-at}
use Rattle.balances.proofs.ChangeLaws.{Added, nothing, Change}

-- a sum of zeros
none-closed : (n : ℕ) → sum_to n (λ k. 0) ≡ 0
none-closed n = sum_to-zeros n (λ k. 0) (λ k l. refl)

-- kW of the one that is named, 0 of any other
abbrev only : ℕ → ℕ → ℕ → ℕ
only named kw k = pick (eqb k named) kw 0

only-named : (named kw k : ℕ) → k ≡ named → only named kw k ≡ kw
only-named named kw k e = rw (eq-eqb k named e)

only-other : (named kw k : ℕ) → k ≢ named → only named kw k ≡ 0
only-other named kw k other = rw (ne_eqb k named other)

abbrev pub by_trade : ℕ → ℕ → ℕ → Added
by_trade seller buyer kw =
    record { bought = only buyer kw; sold = only seller kw; locked = λ h. 0; closed = λ h i. 0; taken = λ i. 0 }

pub granted-trade : {s : List ℕ} {seller buyer kw : ℕ} → Tradable s seller buyer kw → Change s (trade_state s seller buyer kw) (by_trade seller buyer kw)
granted-trade {s} {seller} {buyer} {kw} d =
    let o : Orderly s = d.orderly in
    record {
      ready = record { long = omega (arith, d.long, trade-length s seller buyer kw); orderly = trade-keeps-orderly d };
      opening = opening-same (trade-others d);
      on-intertie = λ i l. omega (arith, unassigned-same o (trade-others d) i l, none-closed (holders s));
      of-holder = λ h l. omega (arith, trade-unplaced d h (omega (arith, o.holders-most)), none-closed (interties s));
      locks = λ h l. omega (arith, locked-sum-same o (trade-others d) h l);
      three_quarters = λ h l some. absurd (omega arith);
    }

pub granted-request : {s : List ℕ} {h i kw : ℕ} → Requestable s h i kw → Change s (request_state s h i kw) nothing
granted-request {s} {h} {i} {kw} d =
    let o : Orderly s = d.orderly in
    record {
      ready = record { long = omega (arith, d.long, request-length s h i kw); orderly = request-keeps-orderly d };
      opening = opening-same (request-others d);
      on-intertie = λ j l. omega (arith, unassigned-same o (request-others d) j l, none-closed (holders s));
      of-holder = λ g l. omega (arith, request-unplaced d g (omega (arith, o.holders-most)), none-closed (interties s));
      locks = λ g l. omega (arith, locked-sum-same o (request-others d) g l);
      three_quarters = λ g l some. absurd (omega arith);
    }

pub granted-move : {s : List ℕ} {giver taker i kw : ℕ} → MoveDone s giver taker i kw → Change s (move_state s giver taker i kw) nothing
granted-move {s} {giver} {taker} {i} {kw} d =
    record {
      ready = record { long = omega (arith, d.long, move-length s giver taker i kw d); orderly = move-orderly s giver taker i kw d };
      opening = move-opening s giver taker i kw d;
      on-intertie = λ j l. omega (arith, move-unassigned s giver taker i kw d j l, none-closed (holders s));
      of-holder = λ h l. omega (arith, move-unplaced s giver taker i kw d h l, none-closed (interties s));
      locks = λ h l. omega (arith, move-locked-sum s giver taker i kw d h l);
      three_quarters = λ h l some. absurd (omega arith);
    }

abbrev pub by_take : ℕ → ℕ → Added
by_take i kw = record { bought = λ h. 0; sold = λ h. 0; locked = λ h. 0; closed = λ h i. 0; taken = only i kw }

taken-off : {s : List ℕ} {h i kw day : ℕ} → TakeDone s h i kw day → (j : ℕ) → j < interties s →
    unassigned_of (take_state s h i kw day) j + only i (take_kw s i kw) j ≡ unassigned_of s j
taken-off {s} {h} {i} {kw} {day} d j l =
    elim (ℕ_discrete j i) [
      | yes e ↦ rw e (omega (arith, only-named i (take_kw s i kw) i refl, take-unassigned s h i kw day d))
      | no other ↦ omega (arith, only-other i (take_kw s i kw) j other, take-other-unassigned s h i kw day d j l other)
    ]

pub granted-take : {s : List ℕ} {h i kw day : ℕ} → TakeDone s h i kw day → Change s (take_state s h i kw day) (by_take i (take_kw s i kw))
granted-take {s} {h} {i} {kw} {day} d =
    record {
      ready = record { long = omega (arith, d.long, take-length s h i kw day d); orderly = take-orderly s h i kw day d };
      opening = take-opening s h i kw day d;
      on-intertie = λ j l. omega (arith, taken-off d j l, none-closed (holders s));
      of-holder = λ g l. omega (arith, take-unplaced s h i kw day d g l, none-closed (interties s));
      locks = λ g l. omega (arith, take-locked-sum s h i kw day d g l);
      three_quarters = λ g l some. absurd (omega arith);
    }

abbrev pub by_lock : ℕ → ℕ → Added
by_lock h kw = record { bought = λ h. 0; sold = λ h. 0; locked = only h kw; closed = λ h i. 0; taken = λ i. 0 }

locked-on : {s : List ℕ} {h i kw term : ℕ} → LockDone s h i kw term → (g : ℕ) → g < holders s →
    of_holder locked_of (lock_state s h i kw term) g ≡ of_holder locked_of s g + only h kw g
locked-on {s} {h} {i} {kw} {term} d g l =
    elim (ℕ_discrete g h) [
      | yes e ↦ rw e (omega (arith, only-named h kw h refl, lock-locked-sum s h i kw term d))
      | no other ↦ omega (arith, only-other h kw g other, lock-other-sum s h i kw term d g l other)
    ]

locked-quarters : {s : List ℕ} {h i kw term : ℕ} → LockDone s h i kw term → (g : ℕ) → 0 < only h kw g →
    4 * (reserved_of (lock_state s h i kw term) g + of_holder locked_of (lock_state s h i kw term) g) ≤ 3 * step7_total_of (lock_state s h i kw term) g
locked-quarters {s} {h} {i} {kw} {term} d g some =
    elim (ℕ_discrete g h) [
      | yes e ↦ rw e (lock-three-quarters s h i kw term d)
      | no other ↦ absurd (omega (arith, only-other h kw g other))
    ]

pub granted-lock : {s : List ℕ} {h i kw term : ℕ} → LockDone s h i kw term → Change s (lock_state s h i kw term) (by_lock h kw)
granted-lock {s} {h} {i} {kw} {term} d =
    record {
      ready = record { long = omega (arith, d.long, lock-length s h i kw term d); orderly = lock-orderly s h i kw term d };
      opening = lock-opening s h i kw term d;
      on-intertie = λ j l. omega (arith, lock-unassigned s h i kw term d j l, none-closed (holders s));
      of-holder = λ g l. omega (arith, lock-unplaced s h i kw term d g l, none-closed (interties s));
      locks = locked-on d;
      three_quarters = λ g l. locked-quarters d g;
    }

-- a closing adds what the grants buffer has at each pair's place
abbrev pub by_close : ℕ → List ℕ → Added
by_close I grants =
    record { bought = λ h. 0; sold = λ h. 0; locked = λ h. 0; closed = λ h i. at grants (h * I + i); taken = λ i. 0 }

pub granted-close : {s g : List ℕ} → CloseDone s g → Change s (close_state s) (by_close (interties s) (close_grants s g))
granted-close {s} {g} d =
    let I : ℕ = interties s in
    let there : ℕ → ℕ → ℕ = λ h i. at (close_grants s g) (h * I + i) in
    record {
      ready = record { long = omega (arith, d.long, close-length s); orderly = close-orderly d };
      opening = close-opening d;
      on-intertie = λ i l.
          omega (arith, close-unassigned d i l, sum_to-same (holders s) (λ h. there h i) (λ h. close_grant s h i) (λ h k. close-grants-at d h i k l));
      of-holder = λ h l.
          omega (arith, close-unplaced d h l, sum_to-same I (λ i. there h i) (λ i. close_grant s h i) (λ i k. close-grants-at d h i l k));
      locks = λ h l. omega (arith, close-locked-sum d h l);
      three_quarters = λ h l some. absurd (omega arith);
    }
