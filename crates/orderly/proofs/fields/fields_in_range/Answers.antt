use Rattle.base.proofs.Prelude.{◌∙◌}
use Rattle.orderly.proofs.CheckLaws.{fields-are}
use Rattle.orderly.proofs.RowLaws.{row-within, row-sum}
use Rattle.orderly.proofs.fields.fields_in_range.Goals as goal

pub returns : goal.returns
returns c =
    let holders = c.holders-holders in
    fields-are _ holders.result holders.ensures.0 holders.ensures.2
    (c.within.ensures ∙ row-within _ _ _ c.row.ensures _)
    (c.sum.ensures ∙ row-sum _ _ _ c.row-2.ensures)
    (c.within-2.ensures ∙ row-within _ _ _ c.row-3.ensures _)
    (c.within-3.ensures ∙ row-within _ _ _ c.row-4.ensures _)
    (c.within-4.ensures ∙ row-within _ _ _ c.row-5.ensures _)
    (c.within-5.ensures ∙ row-within _ _ _ c.row-6.ensures _)
    (c.within-6.ensures ∙ row-within _ _ _ c.row-7.ensures _)
