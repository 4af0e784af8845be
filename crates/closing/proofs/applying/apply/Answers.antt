-- `apply` meets its contract: the numbers that are written are those of the closing.
use Rattle.base.proofs.Prelude.{arith}
use Rattle.closing.proofs.applying.apply.Goals as goal

pub write_state-requires : goal.write_state-requires
write_state-requires c = (
  c.requires.0,
  c.requires.1,
  record {
    unassigned-size = omega arith;
    unassigned-is = c.leave_unassigned.ensures;
    unplaced-size = omega arith;
    unplaced-is = c.leave_unplaced.ensures;
  },
)
