-- `move_kw` meets its contract: a refusal leaves the state; else it stores what both holders have placed.
use Rattle.base.proofs.Prelude.{sym, arith, refl}
use Rattle.std.proofs.lemmas.Result.{err_from_is_err_and}
use Rattle.call.proofs.LadderLaws.{is_refused, is_done}
use Rattle.call.proofs.StoreLaws.{carried}
use Rattle.state.specs.Layout.{placed_at}
use Rattle.holding.specs.Move.{move_state, move}
use Rattle.holding.proofs.MoveLaws.{move-done, move-fits}
use Rattle.holding.proofs.move_kw.Goals as goal

pub returns-in_err-check_move : goal.returns-in_err-check_move
unfolding move
returns-in_err-check_move c =
    let p = err_from_is_err_and c.from_residual.result c.from_residual.ensures.1 in
    rw (p.1, p.2) (is_refused _ _ _ _ c.in_err-check_move.ensures)

pub overflow_sub-given : goal.overflow_sub-given
overflow_sub-given c = omega (arith, (move-done _ _ _ _ _ (sym c.in_ok-check_move.ensures)).enough, c.pair_word-given.ensures)

pub overflow_add-held : goal.overflow_add-held
overflow_add-held c = omega (arith, move-fits _ _ _ _ _ (move-done _ _ _ _ _ (sym c.in_ok-check_move.ensures)), c.pair_word-held.ensures)

pub overflow_cast-moved : goal.overflow_cast-moved
overflow_cast-moved c = omega (arith, (move-done _ _ _ _ _ (sym c.in_ok-check_move.ensures)).kw-most)

pub returns : goal.returns
unfolding move move_state
returns c =
    let a = c.args in
    is_done _ _ _ _ _ c.in_ok-check_move.ensures refl
    (carried a.state.now (placed_at a.giver a.intertie) (placed_at a.taker a.intertie) a.kw
    c.pair_word-given.ensures c.pair_word-held.ensures c.store_pair.ensures c.store_pair-2.ensures)
