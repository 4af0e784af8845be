-- `state::of_holder` meets its contract: after i turns the sum is that of the first i interties.
use Rattle.base.proofs.Prelude.{ℕ, ◌+◌, ◌*◌, ◌≤◌, ◌≡◌, List, sum_to, at}
use Rattle.state.specs.Layout.{place}
use Rattle.state.proofs.of_holder.Given as goal

-- the holder's words of the field
abbrev pub pairs : List ℕ → ℕ → ℕ → ℕ → ℕ
pairs state field holder i = at state (place (field + holder) i)

abbrev pub invariant-loop-intertie : goal.invariant-loop-intertie
invariant-loop-intertie l =
    (l.sum ≡ sum_to l.intertie (pairs l.state l.field l.holder)) × (l.sum ≤ l.intertie * 4294967295)
