-- A journal: the calls of its lines, or the first line that can't be read.
use Rattle.std.specs.Prelude.{ℕ, suc, ◌/◌, List, [], ◌∷◌, ◌++◌, ltb, length, Option, Some, None, Result, Ok, Err}
use Rattle.text.specs.Lines.{line_end}
use Rattle.base.specs.Choice.{pick}
use Rattle.base.specs.CallKind.{number_of}
use Rattle.base.specs.Encoding.{call_words}
use Rattle.text.specs.Pieces.{fields}
use Rattle.text.specs.Written.{written}
use Rattle.journal.specs.Calls.{line_of}
use Rattle.journal.specs.declared.calls.Call.{Call}
use Rattle.journal.specs.declared.faults.Fault.{Fault}
use Rattle.journal.specs.declared.faults.Fault.TheVariants.{TooManyCalls}
use Rattle.journal.specs.declared.faults.Unreadable.{Unreadable}

-- lines end with a line end or the end of the text
abbrev pub lines_of : List ℕ → List (List ℕ)
lines_of text = fields line_end text

-- how many calls there are after a line, before which there were so many: there may be no room for one call more
abbrev pub counted : (room count : ℕ) → Result (Option Call) Fault → Result ℕ Fault
counted room count (Ok None) = Ok count
counted room count (Ok (Some call)) = pick (ltb count room) (Ok (suc count)) (Err TooManyCalls)
counted room count (Err fault) = Err fault

-- the answer past a line of a number: its fault, or what comes of so many calls
abbrev pub past_line : ℕ → Result ℕ Fault → (ℕ → Result ℕ Unreadable) → Result ℕ Unreadable
past_line number (Ok count) later = later count
past_line number (Err fault) later = Err (record { line = number; fault = fault })

-- the answer for lines from a number on, after so many calls: the first fault and the number of its line,
-- or how many calls there are
unfoldable pub answer_from : (room number count : ℕ) → List (List ℕ) → Result ℕ Unreadable
answer_from room number count [] = Ok count
answer_from room number count (line ∷ others) =
    past_line number (counted room count (line_of line)) (λ more. answer_from room (suc number) more others)

-- the answer for a text, with room for as many calls as there are words for
abbrev pub answer_of : List ℕ → List ℕ → Result ℕ Unreadable
answer_of text calls = answer_from (length calls / call_words) 1 0 (lines_of text)

-- the six words of a line's call
abbrev pub words_in : Result (Option Call) Fault → List ℕ
words_in (Ok None) = []
words_in (Ok (Some call)) = number_of call.kind ∷ call.a ∷ call.b ∷ call.c ∷ call.kw ∷ 0 ∷ []
words_in (Err fault) = []

-- the words of the calls of lines, one after the other
unfoldable pub encoded_calls : List (List ℕ) → List ℕ
encoded_calls [] = []
encoded_calls (line ∷ others) = words_in (line_of line) ++ encoded_calls others

-- the words that are left: those of all calls in front where every line was read, else as they were
abbrev pub left_by : Result ℕ Unreadable → List ℕ → List ℕ → List ℕ
left_by (Ok count) made old = made
left_by (Err unreadable) made old = old

unfoldable pub calls_left : List ℕ → List ℕ → List ℕ
calls_left text calls = left_by (answer_of text calls) (written 0 (encoded_calls (lines_of text)) calls) calls
