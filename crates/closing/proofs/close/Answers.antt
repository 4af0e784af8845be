-- `close` meets its contract: refused, or shared out, written into the grants buffer and carried into the state.
use Rattle.std.proofs.lemmas.Result.{err_from_is_err_and}
use Rattle.closing.proofs.ClosedLaws.{closable, is_refused, is_done}
use Rattle.closing.proofs.close.Goals as goal

pub returns-in_err-check_close : goal.returns-in_err-check_close
returns-in_err-check_close c =
    let a = c.args in
    let p = err_from_is_err_and c.from_residual.result c.from_residual.ensures.1 in
    rw (p.1, p.2) (is_refused a.state.now a.grants.now _ c.in_err-check_close.ensures)

pub share_out_pending-requires : goal.share_out_pending-requires
share_out_pending-requires c = (closable _ _ c.in_ok-check_close.ensures).0

pub invariant_of-closing : goal.invariant_of-closing
invariant_of-closing c = record { closable = (closable _ _ c.in_ok-check_close.ensures).0; granted = c.share_out_pending.ensures.1 }

pub write_grants-requires : goal.write_grants-requires
write_grants-requires c = (closable _ _ c.in_ok-check_close.ensures).1

pub returns : goal.returns
returns c =
    is_done c.args.state.now c.args.grants.now _ _ _ c.in_ok-check_close.ensures c.in_ok-granted.ensures.0 c.apply.ensures c.write_grants.ensures
