-- A line of a journal as a call.
--   trade SELLER BUYER KW
--   request HOLDER INTERTIE KW
--   close
--   take HOLDER INTERTIE KW DAY
--   move FROM TO INTERTIE KW
--   lock HOLDER INTERTIE KW TERM
use Rattle.std.specs.Prelude.{ℕ, zero, suc, List, [], ◌∷◌, eqb, Option, Some, None, Result, Ok, Err}
use Prim.Native.Char.{code}
use Rattle.base.specs.Choice.{pick}
use Rattle.base.specs.declared.encoding.CallKind.{CallKind}
use Rattle.base.specs.declared.encoding.CallKind.TheVariants.{Trade, Request, Close, Take, Move, Lock}
use Rattle.base.specs.Words.{at}
use Rattle.text.specs.Ascii.{ascii, same}
use Rattle.text.specs.Decimal.{number_of}
use Rattle.text.specs.declared.reading.NumberError.{NumberError}
use Rattle.journal.specs.Faults.{fault_of}
use Rattle.journal.specs.Words.{words}
use Rattle.journal.specs.declared.calls.Call.{Call}
use Rattle.journal.specs.declared.faults.Fault.{Fault}
use Rattle.journal.specs.declared.faults.Fault.TheVariants.{NotACall, BadNumbers}

-- the kind of the call that a name names
unfoldable pub kind_of : List ℕ → Option CallKind
kind_of name =
    pick (same name (ascii "trade")) (Some Trade)
    (pick (same name (ascii "request")) (Some Request)
    (pick (same name (ascii "close")) (Some Close)
    (pick (same name (ascii "take")) (Some Take)
    (pick (same name (ascii "move")) (Some Move)
    (pick (same name (ascii "lock")) (Some Lock) None)))))

-- the name of the calls of a kind
abbrev pub name : CallKind → List ℕ
name Trade = ascii "trade"
name Request = ascii "request"
name Close = ascii "close"
name Take = ascii "take"
name Move = ascii "move"
name Lock = ascii "lock"

-- how many numbers a call of a kind has
abbrev pub takes : CallKind → ℕ
takes Close = 0
takes Trade = 3
takes Request = 3
takes Take = 4
takes Move = 4
takes Lock = 4

-- a word and the numbers after it
abbrev pub in_front : Result ℕ NumberError → Result (List ℕ) Fault → Result (List ℕ) Fault
in_front (Err error) later = Err (fault_of error)
in_front (Ok n) (Ok values) = Ok (n ∷ values)
in_front (Ok n) (Err fault) = Err fault

-- so many numbers, and no word more, from left to right up to the first fault
unfoldable pub numbers_of : ℕ → List (List ℕ) → Result (List ℕ) Fault
numbers_of zero [] = Ok []
numbers_of zero (word ∷ others) = Err BadNumbers
numbers_of (suc n) [] = Err BadNumbers
numbers_of (suc n) (word ∷ others) = in_front (number_of word) (numbers_of n others)

-- a call of a kind with its numbers, of which `move` has the kW last and the others third; a number that it doesn't have is 0
abbrev pub call_with : CallKind → List ℕ → Call
call_with Move n = record { kind = Move; a = at n 0; b = at n 1; c = at n 2; kw = at n 3 }
call_with Trade n = record { kind = Trade; a = at n 0; b = at n 1; c = at n 3; kw = at n 2 }
call_with Request n = record { kind = Request; a = at n 0; b = at n 1; c = at n 3; kw = at n 2 }
call_with Close n = record { kind = Close; a = at n 0; b = at n 1; c = at n 3; kw = at n 2 }
call_with Take n = record { kind = Take; a = at n 0; b = at n 1; c = at n 3; kw = at n 2 }
call_with Lock n = record { kind = Lock; a = at n 0; b = at n 1; c = at n 3; kw = at n 2 }

-- a call, or the fault of its numbers
abbrev pub made : CallKind → Result (List ℕ) Fault → Result (Option Call) Fault
made kind (Ok values) = Ok (Some (call_with kind values))
made kind (Err fault) = Err fault

-- the call of a kind with the words after its name; a name that names none is a fault
abbrev pub named : Option CallKind → List (List ℕ) → Result (Option Call) Fault
named None others = Err NotACall
named (Some kind) others = made kind (numbers_of (takes kind) others)

-- the call that words are: first its name, then its numbers; no words are no call
unfoldable pub call_of : List (List ℕ) → Result (Option Call) Fault
call_of [] = Ok None
call_of (name ∷ others) = named (kind_of name) others

-- a line: a comment, with no call, where its first byte is #
unfoldable pub line_of : List ℕ → Result (Option Call) Fault
line_of line = pick (eqb (at line 0) (code "#")) (Ok None) (call_of (words line))
