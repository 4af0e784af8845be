-- `intertie_figures` meets its contract: the figures are all 0 where there is no such intertie.
use Rattle.base.proofs.Prelude.{rules}
use Rattle.control_room.proofs.FigureLaws.{no_intertie}
use Rattle.control_room.proofs.intertie_figures.Goals as goal

pub returns-then-not-is_among : goal.returns-then-not-is_among
returns-then-not-is_among c = search (rules, no_intertie)
