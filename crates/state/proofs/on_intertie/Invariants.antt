-- `state::on_intertie` meets its contract: after h turns the sum is that of the first h holders.
use Rattle.base.proofs.Prelude.{ℕ, ◌+◌, ◌*◌, ◌≤◌, ◌≡◌, sum_to, at}
use Rattle.state.specs.Layout.{place}
use Rattle.state.proofs.on_intertie.Given as goal

abbrev pub invariant-loop-holder : goal.invariant-loop-holder
invariant-loop-holder l =
    (l.sum ≡ sum_to l.holder (λ (h : ℕ). at l.state (place (l.field + h) l.intertie))) × (l.sum ≤ l.holder * 4294967295)
