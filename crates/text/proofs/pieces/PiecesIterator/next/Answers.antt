-- `next` meets its contract: what stands before the next separator, and the pieces after it.
use Rattle.base.proofs.Prelude.{ap, arith, length}
use Rattle.text.proofs.PieceLaws.{next_piece}
use Rattle.text.proofs.pieces.PiecesIterator.next.Goals as goal

pub returns-clause-steps : goal.returns-clause-steps
returns-clause-steps c = next_piece _ _ _ _ _ c.in_ok-rest.was c.before-end.ensures.0 c.get-self.ensures.lookup

pub returns-clause-goes : goal.returns-clause-goes
returns-clause-goes c =
    let next = next_piece _ _ _ _ _ c.in_ok-rest.was c.before-end.ensures.0 c.get-self.ensures.lookup in
    record { on = λ h. (tt, tt, omega (arith, ap length next)); keeps = tt; rests = λ h. tt }
