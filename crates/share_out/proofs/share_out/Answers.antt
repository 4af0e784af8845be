-- `share_out` meets its contract: refused with 5, refused with 9, shared out.
use Rattle.base.proofs.Prelude.{not, sym, ap, ◌∙◌, ◌++◌, length, drop}
use Rattle.share_out.specs.Rule.{Outcome}
use Rattle.share_out.proofs.OutcomeLaws.{lengths-unfit, fit-lengths, outcome-lengths, outcome-numbers, outcome-shared, shared-front}
use Rattle.share_out.proofs.share_out.Goals as goal

pub returns-then-not-lengths_fit : goal.returns-then-not-lengths_fit
returns-then-not-lengths_fit c =
    let a = c.args in
    let o = outcome-lengths a.pool a.claims.now a.weights.now a.output.now (lengths-unfit a.claims.now a.weights.now a.output.now c.lengths_fit.ensures ∙ ap not c.if-not-lengths_fit.true) in
    (sym (ap (λ (r : Outcome). r.answer) o), sym (ap (λ (r : Outcome). r.output) o))

pub returns-then-unfit_numbers : goal.returns-then-unfit_numbers
returns-then-unfit_numbers c =
    let a = c.args in
    let o = outcome-numbers a.pool a.claims.now a.weights.now a.output.now
    (lengths-unfit a.claims.now a.weights.now a.output.now c.lengths_fit.ensures ∙ ap not c.if-not-lengths_fit.false) (sym c.unfit_numbers.ensures ∙ c.if-unfit_numbers.true) in
    (sym (ap (λ (r : Outcome). r.answer) o), sym (ap (λ (r : Outcome). r.output) o))

pub returns : goal.returns
returns c = let a = c.args in
    let lengths = lengths-unfit a.claims.now a.weights.now a.output.now c.lengths_fit.ensures ∙ ap not c.if-not-lengths_fit.false in
    let o = outcome-shared a.pool a.claims.now a.weights.now a.output.now lengths (sym c.unfit_numbers.ensures ∙ c.if-unfit_numbers.false) in (
      c.share.ensures.0 ∙ sym (ap (λ (r : Outcome). r.answer) o),
      ap (λ l. l ++ drop (length a.claims.now) a.output.now) c.share.ensures.1
          ∙ sym (shared-front a.pool a.claims.now a.weights.now a.output.now (fit-lengths _ _ _ lengths).room)
          ∙ sym (ap (λ (r : Outcome). r.output) o),
    )
