-- A journal with a call of each kind and comments; and a journal with each fault.
use Prim.Native.Nat.{ℕ}
use mathlib.Core.Path.{◌≡◌, refl}
use mathlib.Core.List.{[], ◌∷◌}
use lib.ListN.{replicate}
use Rattle.text.specs.Ascii.{ascii, same}
use Rattle.text.specs.Decimal.{all_digits, value, number_of}
use Rattle.text.specs.Pieces.{fields}
use Rattle.text.specs.Written.{written}
use Rattle.journal.specs.Words.{pieces, words}
use Rattle.journal.specs.Calls.{kind_of, numbers_of, call_of, line_of}
use Rattle.journal.specs.Journals.{answer_from, answer_of, encoded_calls, calls_left}
use Rattle.journal.specs.declared.faults.Fault.{Fault}
use Rattle.journal.specs.declared.faults.Fault.TheVariants.{NotACall, BadNumbers, Over32Bits, TooManyCalls}
use Rattle.journal.specs.declared.faults.Unreadable.{Unreadable}
use Rattle.std.specs.Prelude.{Result, Ok, Err}

abbrev stops : ℕ → Fault → Result ℕ Unreadable
stops number why = Err (record { line = number; fault = why })

pub record Read : Type 0 where
  -- a comment, a blank line, blanks of any kind; the 38 words given are all 7
  pub six-calls : calls_left (ascii "# a year\ntrade 0 1 500\n\n request\t2  3 40 \r\nclose\ntake 2 3 30 150\nmove 0 1 5 20\nlock 4 6 10 2") (replicate 38 7) ≡
      1 ∷ 0 ∷ 1 ∷ 0 ∷ 500 ∷ 0
      ∷ 2 ∷ 2 ∷ 3 ∷ 0 ∷ 40 ∷ 0
      ∷ 3 ∷ 0 ∷ 0 ∷ 0 ∷ 0 ∷ 0
      ∷ 4 ∷ 2 ∷ 3 ∷ 150 ∷ 30 ∷ 0
      ∷ 5 ∷ 0 ∷ 1 ∷ 5 ∷ 20 ∷ 0
      ∷ 6 ∷ 4 ∷ 6 ∷ 2 ∷ 10 ∷ 0
      ∷ 7 ∷ 7 ∷ []
  pub counted : answer_of (ascii "# a year\ntrade 0 1 500\n\nclose\n") (replicate 12 7) ≡ Ok 2
  pub empty : answer_of [] [] ≡ Ok 0
  pub no_name : answer_of (ascii "close\ntrad 0 1 500\n") (replicate 12 7) ≡ stops 2 NotACall
  -- # makes a comment as the first byte of a line alone
  pub late-hash : answer_of (ascii " # a year\n") (replicate 12 7) ≡ stops 1 NotACall
  pub too_few : answer_of (ascii "\ntrade 0 1\n") (replicate 12 7) ≡ stops 2 BadNumbers
  pub too_many : answer_of (ascii "close 1\n") (replicate 12 7) ≡ stops 1 BadNumbers
  pub no_number : answer_of (ascii "trade 0 -1 5\n") (replicate 12 7) ≡ stops 1 BadNumbers
  pub most : answer_of (ascii "trade 0 1 4294967295\n") (replicate 12 7) ≡ Ok 1
  pub over : answer_of (ascii "trade 0 1 4294967296\n") (replicate 12 7) ≡ stops 1 Over32Bits
  pub no_room : answer_of (ascii "close\nclose\nclose\n") (replicate 17 7) ≡ stops 3 TooManyCalls
  pub left : calls_left (ascii "close\nclose\nclose\n") (replicate 17 7) ≡ replicate 17 7

pub journals : Read
unfolding all_digits value number_of fields written pieces words same kind_of numbers_of call_of line_of answer_from encoded_calls calls_left
journals = record { six-calls = refl; counted = refl; empty = refl; no_name = refl; late-hash = refl; too_few = refl; too_many = refl; no_number = refl; most = refl; over = refl; no_room = refl; left = refl }
