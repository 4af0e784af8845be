-- The kinds of call as a type, and their numbers.
use Rattle.std.specs.Prelude.{ℕ}
use Rattle.base.specs.declared.encoding.CallKind.{CallKind}
use Rattle.base.specs.declared.encoding.CallKind.TheVariants.{Trade, Request, Close, Take, Move, Lock}
use Rattle.base.specs.Encoding.{trade_call, request_call, close_call, take_call, move_call, lock_call}

-- the number of a kind
abbrev pub number_of : CallKind → ℕ
number_of Trade = trade_call
number_of Request = request_call
number_of Close = close_call
number_of Take = take_call
number_of Move = move_call
number_of Lock = lock_call
