-- `steps_2_to_7` meets its contract: each step is handed what the one before left (`OpenLaws`).
use Rattle.opening.proofs.OpenLaws.{total-is, quantities-are, held-given, year-opened}
use Rattle.opening.proofs.year.steps_2_to_7.Goals as goal

pub invariant_of-reserves : goal.invariant_of-reserves
invariant_of-reserves c = record { given = held-given c.args.read.tables.now _ _ c.requires.0 _ _ _ _ _ _ c.reserve-total.ensures }

pub returns : goal.returns
returns c =
    let sheet = c.args.read.tables.now in (
      total-is sheet _ _ c.requires.0 _ _ _ _ _ _ c.reserve-total.ensures,
      quantities-are sheet _ _ c.requires.0 _ _ _ _ _ _ c.reserve-total.ensures,
      year-opened sheet _ _ c.requires.0 _ _ _ _ _ _ c.reserve-total.ensures _ _ _ c.steps_5_to_7.ensures _ _ c.requires.1 c.write_state.ensures,
    )
