-- `rows::put_row` meets its contract: the kind by its name or its number, then the figures.
use Rattle.base.proofs.Prelude.{◌∙◌, rules}
use Rattle.sheet_table.proofs.RowLaws.{label-name, label-number, row_put}
use Rattle.sheet_table.proofs.rows.put_row.Goals as goal

pub returns-in-Ok : goal.returns-in-Ok
returns-in-Ok c =
    row_put c.args.row.key c.args.row.kw _ _ _ _ _ _ _ c.from-key.ensures.0 (label-name c.in-Ok.kind _ _ c.in-Ok.ensures c.name.ensures)
    (c.from.ensures ∙ c.from-key.ensures.1) (c.from-2.ensures ∙ c.from-key.ensures.2) (c.from-3.ensures ∙ c.from-key.ensures.3)
    (c.from-4.ensures ∙ c.from-key.ensures.4) c.from-5.ensures
    _ _ c.put_line.ensures

pub returns : goal.returns
returns c =
    row_put c.args.row.key c.args.row.kw _ _ _ _ _ _ _ c.from-key.ensures.0
    (label-number _ _ (rw c.in_default.is at c.try_from.ensures) (search rules) (c.as_bytes.ensures.value ∙ c.format.ensures.text))
    (c.from.ensures ∙ c.from-key.ensures.1) (c.from-2.ensures ∙ c.from-key.ensures.2) (c.from-3.ensures ∙ c.from-key.ensures.3)
    (c.from-4.ensures ∙ c.from-key.ensures.4) c.from-5.ensures
    _ _ c.put_line-2.ensures
