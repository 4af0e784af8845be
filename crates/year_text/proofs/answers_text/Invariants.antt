-- `answers_text` meets its contract: after n turns the first n lines are put.
use Rattle.base.proofs.Prelude.{◌≡◌}
use Rattle.text.specs.Lines.{each}
use Rattle.year_text.specs.Text.{answer_of}
use Rattle.year_text.proofs.answers_text.Given as goal

abbrev pub invariant-loop-answer : goal.invariant-loop-answer
invariant-loop-answer l = l.text.items ≡ each l.answer-index (answer_of l.fn.answers)
