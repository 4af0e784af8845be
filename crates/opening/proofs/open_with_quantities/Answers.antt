-- `open_with_quantities` meets its contract: refused as the sheet is or with 5, or opened (`TableOpening`).
use Rattle.base.proofs.Prelude.{ℕ, ◌≡◌, sym, ap, ◌∙◌, arith, List}
use Rattle.base.specs.Answers.{refused}
use Rattle.base.specs.declared.refusals.Refusal.{Refusal}
use Rattle.base.specs.declared.Granted.{Granted}
use Rattle.base.specs.Refused.{answer_of, number_in, number_of}
use Rattle.base.proofs.RefusedLaws.{numbered}
use Rattle.std.proofs.Common.{Result}
use Rattle.std.specs.Result.{IsErrAnd}
use Rattle.std.proofs.lemmas.Result.{err_from_is_err_and}
use mathlib.Core.Logic.{◌≢◌}
use Rattle.sheet_records.specs.Refusal.{sheet_refusal}
use Rattle.sheet_reading.proofs.SheetLaws.{head-kept, head-refused}
use Rattle.opening.specs.Open.{Outcome, opened, quantities_found}
use Rattle.opening.proofs.TableOpening.{open-refused, open-short, found-refused, found-short, read-valid, read_opened}
use Rattle.opening.proofs.open_with_quantities.Goals as goal

-- a refusal of the sheet is handed on, and state and row stay
turned-down : (sheet s row : List ℕ) (r : Refusal) (out : Result Granted Refusal) → IsErrAnd out (λ x. x ≡ r) → number_of r ≡ sheet_refusal sheet →
    (answer_of out ≡ (opened sheet s).answer) × (s ≡ (opened sheet s).state) × (row ≡ quantities_found sheet s row)
turned-down sheet s row r out handed number =
    let p = err_from_is_err_and out handed in
    let ne : sheet_refusal sheet ≢ 0 = λ e. omega (arith, numbered r, number ∙ e) in
    let o = open-refused sheet s ne in
    rw (p.1, p.2) (
      ap (λ (k : ℕ). refused k) number ∙ sym (ap (λ (o : Outcome). o.answer) o),
      sym (ap (λ (o : Outcome). o.state) o),
      sym (found-refused sheet s row ne),
    )

pub returns-in_err-headed : goal.returns-in_err-headed
returns-in_err-headed c = turned-down _ _ _ _ _ c.from_residual.ensures.1 (head-refused _ _ (sym c.of.ensures ∙ c.in_err-headed.was))

pub returns-in_err-read : goal.returns-in_err-read
returns-in_err-read c =
    let read = rw (head-kept _ _ (sym c.of.ensures ∙ c.in_ok-headed.was)) at c.read.ensures in
    turned-down _ _ _ _ _ c.from_residual-in_err-read.ensures.1 (sym (ap number_in c.in_err-read.was) ∙ read.answer)

pub returns-then-state-lt-STATE_WORDS : goal.returns-then-state-lt-STATE_WORDS
returns-then-state-lt-STATE_WORDS c =
    let a = c.args in
    let read = rw (head-kept _ _ (sym c.of.ensures ∙ c.in_ok-headed.was)) at c.read.ensures in
    let stands = sym read.answer ∙ ap number_in c.in_ok-read.was in
    let o = open-short a.sheet.now a.state.now stands c.if-state-lt-STATE_WORDS.true in (
      sym (ap (λ (o : Outcome). o.answer) o),
      sym (ap (λ (o : Outcome). o.state) o),
      sym (found-short a.sheet.now a.state.now a.quantities.now stands c.if-state-lt-STATE_WORDS.true),
    )

pub steps_2_to_7-total-requires : goal.steps_2_to_7-total-requires
steps_2_to_7-total-requires c =
    let read = rw (head-kept _ _ (sym c.of.ensures ∙ c.in_ok-headed.was)) at c.read.ensures in
    (read-valid _ _ _ _ read (ap number_in c.in_ok-read.was) _ _ c.intertie_count.ensures c.holder_count.ensures, c.if-state-lt-STATE_WORDS.false)

pub returns : goal.returns
returns c =
    let read = rw (head-kept _ _ (sym c.of.ensures ∙ c.in_ok-headed.was)) at c.read.ensures in
    read_opened _ _ _ _ read (ap number_in c.in_ok-read.was) _ _ c.intertie_count.ensures c.holder_count.ensures c.args.state.now c.args.quantities.now c.if-state-lt-STATE_WORDS.false _ _ _ c.steps_2_to_7-total.ensures
