-- `keep_calendar` meets its contract: it stores the three words.
use Rattle.base.proofs.Prelude.{ap, ◌∙◌, set}
use Rattle.state.specs.Layout.{last_week_at, takings_at}
use Rattle.taking.proofs.keep_calendar.Goals as goal

pub returns : goal.returns
returns c = let a = c.args in
    c.store-3.ensures
    ∙ ap (λ l. set l (takings_at a.holder) a.calendar.count)
    (c.store-2.ensures ∙ ap (λ l. set l (last_week_at a.holder) a.calendar.week) c.store.ensures)
