-- `read_journal` meets its contract: a fault leaves the words, else the calls are written.
use Rattle.base.proofs.Prelude.{◌≡◌, sym, ◌∙◌, rules}
use Rattle.std.specs.Prelude.{Err}
use Rattle.journal.proofs.JournalLaws.{left_alone, calls-fit, left-written}
use Rattle.journal.proofs.read_journal.Goals as goal

pub returns-in_err-count : goal.returns-in_err-count
returns-in_err-count c =
    let e : c.from_residual.result ≡ Err c.in_err-count.field-0.0 = search rules in
    let answer = sym c.in_err-count.was ∙ c.check.ensures in
    (e ∙ answer, left_alone _ _ _ answer)

pub put_calls-requires : goal.put_calls-requires
put_calls-requires c = search (rules, calls-fit)

pub returns : goal.returns
returns c = search (rules, left-written)
