-- `holder_figures` meets its contract: the figures are all 0 where there is no such holder.
use Rattle.base.proofs.Prelude.{rules}
use Rattle.control_room.proofs.FigureLaws.{no_holder}
use Rattle.control_room.proofs.holder_figures.Goals as goal

pub returns-then-not-is_among : goal.returns-then-not-is_among
returns-then-not-is_among c = search (rules, no_holder)
