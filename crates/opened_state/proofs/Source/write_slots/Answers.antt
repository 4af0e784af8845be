-- `write_slots` meets its contract: the part is stored whole (`StoreLaws`).
use Rattle.base.proofs.Prelude.{rules}
use Rattle.opened_state.proofs.StoreLaws.{stored-slots}
use Rattle.opened_state.proofs.Source.write_slots.Goals as goal

pub returns : goal.returns
returns c =
    let a = c.args in
    let p = c.requires in
    stored-slots _ _ a.self.read.tables.now.kw _ _ _ _ c.store_row.ensures (search rules) p.0 p.1 p.2 (search rules) (search rules)
