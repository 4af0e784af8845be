-- `has_no_lock` meets its contract: the bits of the pairs passed are 0 where these pairs have no lock.
use Rattle.base.proofs.Prelude.{◌≡◌, eqb, all_to}
use Rattle.orderly.specs.Workers.Check.{unlocked}
use Rattle.orderly.proofs.locks.has_no_lock.Given as goal

abbrev pub invariant-loop-intertie : goal.invariant-loop-intertie
invariant-loop-intertie l = eqb l.bits 0 ≡ all_to l.intertie (λ i. unlocked l.rows l.holder i)
