-- `lock` meets its contract: what was not refused stores the kW and the term.
use Rattle.base.proofs.Prelude.{sym, ap, ◌∙◌, arith, refl, set}
use Rattle.call.proofs.LadderLaws.{is_done}
use Rattle.state.specs.Layout.{term_at}
use Rattle.holding.specs.Lock.{lock_state, lock}
use Rattle.holding.proofs.LockLaws.{lock-done}
use Rattle.holding.proofs.lock.Goals as goal

pub overflow_cast-kw : goal.overflow_cast-kw
overflow_cast-kw c = omega (arith, (lock-done _ _ _ _ _ (sym c.in_ok-check_lock.ensures)).kw-most)

pub returns : goal.returns
unfolding lock lock_state
returns c =
    let a = c.args in
    is_done _ _ _ _ _ c.in_ok-check_lock.ensures refl
    (c.store_pair-2.ensures ∙ ap (λ l. set l (term_at a.holder a.intertie) a.term) c.store_pair.ensures)
