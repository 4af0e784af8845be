-- `read_number` meets its contract: empty, no digits, or digits.
use Rattle.std.proofs.Common.{ap, not, sym, ◌∙◌, rules}
use borrow.Author.Tests.{not-true, not-false}
use Rattle.text.proofs.ReadLaws.{number-empty, number-bad}
use Rattle.text.proofs.reading.read_number.Goals as goal

pub returns-then-not-all_digits : goal.returns-then-not-all_digits
returns-then-not-all_digits c =
    number-bad c.args.text.now (sym (not-true _ (ap not c.if-not-all_digits.true)) ∙ c.all_digits.ensures)

pub returns-then-is_empty : goal.returns-then-is_empty
returns-then-is_empty c = search (rules, number-empty)

pub digits_value-requires : goal.digits_value-requires
digits_value-requires c = (search rules, sym c.all_digits.ensures ∙ not-false _ (ap not c.if-not-all_digits.false))
