-- `take` meets its contract: what was not refused gives the kW and keeps the calendar.
use Rattle.base.proofs.Prelude.{sym, ap, arith}
use Rattle.base.specs.Answers.{granted}
use Rattle.call.proofs.LadderLaws.{is_done}
use Rattle.taking.specs.Take.{take}
use Rattle.taking.proofs.TakeLaws.{take_done, take-stored, take_within, take-fits}
use Rattle.taking.proofs.take.Goals as goal

pub give-requires : goal.give-requires
give-requires c =
    let d = take_done _ _ _ _ _ (sym c.in_ok-check_take.ensures) in
    (omega (arith, take_within _ _ _ _ _ d, c.take_kw-granted.ensures), omega (arith, take-fits _ _ _ _ _ d, c.take_kw-granted.ensures))

pub returns : goal.returns
unfolding take
returns c =
    is_done _ _ _ _ _ c.in_ok-check_take.ensures (ap (λ k. granted k 0) c.take_kw-granted.ensures)
    (take-stored _ _ _ _ _ c.take_kw-granted.ensures c.calendar_after-calendar.ensures c.give.ensures c.keep_calendar.ensures)

pub calendar_after-calendar-requires : goal.calendar_after-calendar-requires
calendar_after-calendar-requires c = (take_done _ _ _ _ _ (sym c.in_ok-check_take.ensures)).under-two
