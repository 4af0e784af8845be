-- `reserve` meets its contract: nothing where the tables aren't in range, else Steps 2 to 4b.
use Rattle.std.proofs.Common.{not}
use Rattle.base.proofs.Prelude.{◌+◌, ◌≡◌, sym, ap, ◌∙◌, arith, length, rules}
use borrow.Author.Tests.{not-true, not-false}
use Rattle.steps_2_to_4.proofs.ClaimLaws.{mid-tab}
use Rattle.steps_2_to_4.proofs.StepLaws.{fit-tables, reserved-not, taken-whole}
use Rattle.steps_2_to_4.proofs.reserve.Goals as goal

pub returns-then-not-fit_tables : goal.returns-then-not-fit_tables
returns-then-not-fit_tables c = sym (reserved-not _ _ _ _ _ _ _ (sym c.fit_tables.ensures ∙ not-true _ (ap not c.if-not-fit_tables.true)))

pub invariant_of-inputs-clause-ranged : goal.invariant_of-inputs-clause-ranged
invariant_of-inputs-clause-ranged c = sym c.fit_tables.ensures ∙ not-false _ (ap not c.if-not-fit_tables.false)

pub invariant_of-inputs-clause-weighed : goal.invariant_of-inputs-clause-weighed
invariant_of-inputs-clause-weighed c =
    let a = c.args in
    let fit = sym c.fit_tables.ensures ∙ not-false _ (ap not c.if-not-fit_tables.false) in
    let size : length a.read.tables.now.kw ≡ 12481 = search rules in
    mid-tab 128 (128 + a.read.holders) a.read.holders a.read.tables.now.kw (omega (arith, (fit-tables a.read.tables.now.kw a.read.interties _ fit).small)) (omega arith)

pub returns : goal.returns
returns c =
    let a = c.args in
    let fit = sym c.fit_tables.ensures ∙ not-false _ (ap not c.if-not-fit_tables.false) in
    let range = fit-tables _ _ _ fit in
    taken-whole a.read.tables.now a.read.interties a.read.holders _ _ _ _ _ _ _ _ _ range.few range.small c.told-quantities c.told-unassigned fit
    c.steps_2_to_4.ensures
