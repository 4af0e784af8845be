-- What the calls of a list bought, sold, granted and locked, summed over the list.
use Rattle.std.specs.Prelude.{ℕ, ◌+◌, ◌*◌, List, [], ◌∷◌, eqb}
use Rattle.base.specs.Choice.{pick}
use Rattle.base.specs.Words.{at}
use Rattle.balances.specs.Calls.{Call, trade, request, close, take, move, lock, Result, result}

-- the kW of a trade that names holder h as the buyer
unfoldable pub bought_in : ℕ → Call → Result → ℕ
bought_in h (trade seller buyer kw) r = pick (eqb h buyer) kw 0
bought_in h (request _ _ _) r = 0
bought_in h (close _) r = 0
bought_in h (take _ _ _ _) r = 0
bought_in h (move _ _ _ _) r = 0
bought_in h (lock _ _ _ _) r = 0

-- the kW of a trade that names holder h as the seller
unfoldable pub sold_in : ℕ → Call → Result → ℕ
sold_in h (trade seller buyer kw) r = pick (eqb h seller) kw 0
sold_in h (request _ _ _) r = 0
sold_in h (close _) r = 0
sold_in h (take _ _ _ _) r = 0
sold_in h (move _ _ _ _) r = 0
sold_in h (lock _ _ _ _) r = 0

-- what a closing granted holder h on intertie i: word h·I + i of its grants buffer when it returns
unfoldable pub closed_in : ℕ → ℕ → ℕ → Call → Result → ℕ
closed_in I h i (trade _ _ _) r = 0
closed_in I h i (request _ _ _) r = 0
closed_in I h i (close _) r = at r.grants (h * I + i)
closed_in I h i (take _ _ _ _) r = 0
closed_in I h i (move _ _ _ _) r = 0
closed_in I h i (lock _ _ _ _) r = 0

-- what a taking granted on intertie i: the kW in its answer
unfoldable pub taken_in : ℕ → Call → Result → ℕ
taken_in i (trade _ _ _) r = 0
taken_in i (request _ _ _) r = 0
taken_in i (close _) r = 0
taken_in i (take holder intertie kw day) r = pick (eqb i intertie) r.answer.kw 0
taken_in i (move _ _ _ _) r = 0
taken_in i (lock _ _ _ _) r = 0

-- the kW of a lock of holder h
unfoldable pub locked_in : ℕ → Call → Result → ℕ
locked_in h (trade _ _ _) r = 0
locked_in h (request _ _ _) r = 0
locked_in h (close _) r = 0
locked_in h (take _ _ _ _) r = 0
locked_in h (move _ _ _ _) r = 0
locked_in h (lock holder intertie kw term) r = pick (eqb h holder) kw 0

-- what a call adds to a sum: a refused call adds nothing
abbrev pub added : Result → ℕ → ℕ
added r kw = pick (eqb r.answer.refusal 0) kw 0

-- an amount summed over a list from the state s on, each call on the state as the call before it left it
unfoldable pub total : (Call → Result → ℕ) → List Call → List ℕ → ℕ
total amount [] s = 0
total amount (call ∷ calls) s =
    added (result call s) (amount call (result call s)) + total amount calls (result call s).state

-- of the calls of a list from the state s on: what holder h bought, sold and locked,
-- what closings granted holder h on intertie i of I, and what takings granted on intertie i
abbrev pub bought : List Call → List ℕ → ℕ → ℕ
bought calls s h = total (bought_in h) calls s

abbrev pub sold : List Call → List ℕ → ℕ → ℕ
sold calls s h = total (sold_in h) calls s

abbrev pub locked : List Call → List ℕ → ℕ → ℕ
locked calls s h = total (locked_in h) calls s

abbrev pub closed : ℕ → List Call → List ℕ → ℕ → ℕ → ℕ
closed I calls s h i = total (closed_in I h i) calls s

abbrev pub taken : List Call → List ℕ → ℕ → ℕ
taken calls s i = total (taken_in i) calls s
