-- `step_5_shares` meets its contract: lists that don't fit, numbers that don't, and the shares.
use Rattle.base.proofs.Prelude.{sym, ap, ◌∙◌, ◌++◌, length, drop}
use lib.Seq.{length-take-le}
use Rattle.step_5.specs.Outcome.{Outcome}
use Rattle.base.proofs.WordLaws.{take-replicate}
use Rattle.step_5.proofs.FitLaws.{fit-lengths}
use Rattle.step_5.proofs.OutcomeLaws.{outcome-lengths, outcome-numbers, outcome-shares, shares-front}
use Rattle.step_5.proofs.step_5_shares.Goals as goal

pub returns-then-not-lengths_fit : goal.returns-then-not-lengths_fit
returns-then-not-lengths_fit c =
    let a = c.args in
    let o = outcome-lengths a.total_kw a.held.now a.loads.now a.shares.now (sym c.lengths_fit.ensures ∙ c.if-not-lengths_fit.true) in
    (sym (ap (λ (r : Outcome). r.fit) o), sym (ap (λ (r : Outcome). r.output) o))

pub returns-then-not-fit_numbers : goal.returns-then-not-fit_numbers
returns-then-not-fit_numbers c =
    let a = c.args in
    let o = outcome-numbers a.total_kw a.held.now a.loads.now a.shares.now (sym c.fit_numbers.ensures ∙ c.if-not-fit_numbers.true) in
    (sym (ap (λ (r : Outcome). r.fit) o), sym (ap (λ (r : Outcome). r.output) o))

pub assign-requires : goal.assign-requires
assign-requires c =
    let fit = fit-lengths _ _ _ (sym c.lengths_fit.ensures ∙ c.if-not-lengths_fit.false) in
    (take-replicate _ 32 0 fit.few, length-take-le _ _ fit.room)

pub returns : goal.returns
returns c =
    let a = c.args in
    let o = outcome-shares a.total_kw a.held.now a.loads.now a.shares.now
    (sym c.lengths_fit.ensures ∙ c.if-not-lengths_fit.false)
    (sym c.fit_numbers.ensures ∙ c.if-not-fit_numbers.false) in (
      sym (ap (λ (r : Outcome). r.fit) o),
      ap (λ l. l ++ drop (length a.held.now) a.shares.now) c.assign.ensures
          ∙ sym (shares-front a.total_kw a.held.now a.loads.now a.shares.now (fit-lengths _ _ _ (sym c.lengths_fit.ensures ∙ c.if-not-lengths_fit.false)).room)
          ∙ sym (ap (λ (r : Outcome). r.output) o),
    )
