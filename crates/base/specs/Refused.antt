-- What a refusal answers: its number, and 0 kW and 0 passes.
use Rattle.std.specs.Prelude.{ℕ, Result, Ok, Err}
use Rattle.base.specs.declared.Answer.{Answer}
use Rattle.base.specs.declared.Granted.{Granted}
use Rattle.base.specs.declared.refusals.Refusal.{Refusal}
use Rattle.base.specs.declared.refusals.Refusal.TheVariants.{SheetLength, Sizes, Records, AboveLimit, Room, NotOrderly, Stage}
use Rattle.base.specs.declared.refusals.Refusal.TheVariants.{NoSuch, Range, TooMuch, Day, NoneLeft, Lock, Carry}
use Rattle.base.specs.Answers.{refused, granted}
use Rattle.base.specs.Refusals.{sheet_length_refused, sizes_refused, records_refused, above_limit_refused, room_refused}
use Rattle.base.specs.Refusals.{not_orderly_refused, stage_refused}
use Rattle.base.specs.Refusals.{no_such_refused, range_refused, too_much_refused, day_refused, none_left_refused}
use Rattle.base.specs.Refusals.{lock_refused, carry_refused}

-- the number of a refusal
abbrev pub number_of : Refusal → ℕ
number_of SheetLength = sheet_length_refused
number_of Sizes = sizes_refused
number_of Records = records_refused
number_of AboveLimit = above_limit_refused
number_of Room = room_refused
number_of NotOrderly = not_orderly_refused
number_of Stage = stage_refused
number_of NoSuch = no_such_refused
number_of Range = range_refused
number_of TooMuch = too_much_refused
number_of Day = day_refused
number_of NoneLeft = none_left_refused
number_of Lock = lock_refused
number_of Carry = carry_refused

-- the number that an outcome reports: that of its refusal, or 0
abbrev pub number_in : {A : Type 0} → Result A Refusal → ℕ
number_in (Ok given) = 0
number_in (Err refusal) = number_of refusal

-- the answer of an outcome
abbrev pub answer_of : Result Granted Refusal → Answer
answer_of (Ok given) = granted given.kw given.passes
answer_of (Err refusal) = refused (number_of refusal)
