-- `write_state` meets its contract: store by store it is the state after the closing.
use Rattle.state.proofs.OrderlyLaws.{refusal-none}
use Rattle.closing.proofs.ClosedLaws.{state-is}
use Rattle.closing.proofs.applying.write_state.Goals as goal

pub returns : goal.returns
returns c =
    let a = c.args in
    let p = c.requires in
    state-is a.state.now a.unassigned.now a.unplaced.now a.table.now _ _ _ _ _ _ _ _ p.0.long (refusal-none _ p.0.fit).1 p.1 p.2
    c.intertie_count-interties.ensures
    c.holder_count-holders.ensures
    c.stage-stage.ensures
    c.store_row.ensures
    c.store_row-2.ensures
    c.raise_pairs.ensures
    c.clear_pairs.ensures
    c.store.ensures
