-- A call of the year and its answer as words of a list: how many they are, and the kinds of call. Each is named
-- here once; src/encoding.rt has the same.
use Rattle.std.specs.Prelude.{ℕ}

-- the words of a call: its kind, three numbers, and the low and the high word of its kW
abbrev pub call_words : ℕ
call_words = 6

-- the words of its answer: refusal, kW, passes
abbrev pub answer_words : ℕ
answer_words = 3

-- trade: seller, buyer
abbrev pub trade_call : ℕ
trade_call = 1

-- request: holder, intertie
abbrev pub request_call : ℕ
request_call = 2

-- close: no number, no kW
abbrev pub close_call : ℕ
close_call = 3

-- take: holder, intertie, day
abbrev pub take_call : ℕ
take_call = 4

-- move: giver, taker, intertie
abbrev pub move_call : ℕ
move_call = 5

-- lock: holder, intertie, term
abbrev pub lock_call : ℕ
lock_call = 6
