-- What a whole list of calls changes and adds, and a list with one call more.
use Prim.Native.Nat.{ℕ, ◌+◌}
use mathlib.Core.Path.{◌≡◌, refl, ◌∙◌}
use mathlib.Core.List.{List, [], ◌∷◌, ◌++◌}
use native.Mathlib.Omega.{arith}
use Rattle.state.specs.Layout.{interties}
use Rattle.state.proofs.FrameLaws.{same-interties}
use Rattle.balances.specs.Calls.{Call, Result, result, after}
use Rattle.balances.specs.Amounts.{added, total, bought, sold, locked, closed, taken}
use Rattle.balances.proofs.ChangeLaws.{Added, Ready, Change, change-none, change-then}
use Rattle.balances.proofs.CallLaws.{change-call}

-- what a list adds, with closings' words by I
abbrev pub added_by_all : ℕ → List Call → List ℕ → Added
added_by_all I calls s =
    record {
      bought = bought calls s;
      sold = sold calls s;
      locked = locked calls s;
      closed = closed I calls s;
      taken = taken calls s;
    }

pub change-list : (I : ℕ) (calls : List Call) {s : List ℕ} → Ready s → interties s ≡ I → Change s (after calls s) (added_by_all I calls s)
unfolding after total
change-list I [] ready size = change-none ready
change-list I (call ∷ calls) ready size =
    let first = change-call I ready size call in
    let rest = change-list I calls first.ready (same-interties first.opening ∙ size) in
    change-then ready.orderly first rest

-- one call more at the end of a list: the state after it, and an amount
pub after_last : (calls : List Call) (call : Call) (s : List ℕ) → after (calls ++ (call ∷ [])) s ≡ (result call (after calls s)).state
unfolding after
after_last [] call s = refl
after_last (first ∷ calls) call s = after_last calls call (result first s).state

pub total-last : (amount : Call → Result → ℕ) (calls : List Call) (call : Call) (s : List ℕ) →
    total amount (calls ++ (call ∷ [])) s ≡ total amount calls s + added (result call (after calls s)) (amount call (result call (after calls s)))
unfolding total after
total-last amount [] call s = omega arith
total-last amount (first ∷ calls) call s =
    let rest = total-last amount calls call (result first s).state in
    omega (arith, rest)
