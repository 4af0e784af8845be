-- The calendar of takings: the last taking's day, and a holder's last taking's week with its takings in it.
use Rattle.std.specs.Prelude.{ℕ, ◌+◌, ◌/◌, Bool, ◌||◌, leb, ltb, eqb}
use Rattle.base.specs.Choice.{pick}
use Rattle.base.specs.Limits.{week_days, most_takings}
use Rattle.taking.specs.declared.Calendar.{Calendar}

-- week = day / 7
abbrev pub week_of : ℕ → ℕ
week_of day = day / week_days

-- a holder's count is that of its last taking's week, and 0 in any other
abbrev pub count_in : Calendar → ℕ → ℕ
count_in c week = pick (eqb c.week week) c.count 0

-- 11: day before the last granted taking's, or third granted in the week
abbrev pub refuses_day : Calendar → ℕ → Bool
refuses_day c day = ltb day c.last_day || leb most_takings (count_in c (week_of day))

-- the calendar after a taking
abbrev pub after_taking : Calendar → ℕ → Calendar
after_taking c day = record { last_day = day; week = week_of day; count = count_in c (week_of day) + 1 }
