-- `carry` meets its contract: refused, or carried on (`CarryLaws`).
use Rattle.base.proofs.Prelude.{sym, ◌∙◌}
use Rattle.carrying.proofs.carry.Goals as goal

pub carry_on-requires : goal.carry_on-requires
carry_on-requires c = (sym c.in_ok-check_early.ensures, sym c.sizes_differ.ensures ∙ c.if-sizes_differ.false)

pub sizes_differ-requires : goal.sizes_differ-requires
sizes_differ-requires c = sym c.in_ok-check_early.ensures
