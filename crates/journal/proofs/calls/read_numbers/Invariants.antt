-- `read_numbers` meets its contract: what is left of the words decides what is left of the numbers.
use Rattle.base.proofs.Prelude.{◌-◌, ◌≡◌, length, take}
use Rattle.journal.specs.Calls.{numbers_of}
use Rattle.journal.specs.Workers.Left.{words_left}
use Rattle.journal.proofs.NumberLaws.{after}
use Rattle.journal.proofs.calls.read_numbers.Given as goal

abbrev pub invariant-loop-number : goal.invariant-loop-number
invariant-loop-number l =
    numbers_of (length l.numbers) (words_left l.initial.words) ≡ after (take l.number-index l.numbers) (numbers_of (length l.numbers - l.number-index) (words_left l.words))
