-- `write_grants` meets its contract: after the turns so far the first words are the grants.
use Rattle.base.proofs.Prelude.{◌+◌, ◌*◌}
use Rattle.closing.proofs.BufferLaws.{Writing}
use Rattle.closing.proofs.grants.Closing.write_grants.Given as goal

abbrev pub invariant-loop-holder : goal.invariant-loop-holder
invariant-loop-holder l = Writing l.self.state.now l.initial.grants l.grants (l.holder * l.interties)

abbrev pub invariant-loop-intertie : goal.invariant-loop-intertie
invariant-loop-intertie l = Writing l.self.state.now l.fn.grants l.grants (l.holder * l.interties + l.intertie)
