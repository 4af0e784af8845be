-- `same` meets its contract: the first sheet is refused, the second is, or their words decide (`SameLaws`).
use Rattle.base.proofs.Prelude.{sym, ap, ◌∙◌, rules}
use Rattle.std.proofs.lemmas.Result.{err_from_is_err_and}
use Rattle.same.specs.Same.{refused_verdict, verdict}
use Rattle.same.proofs.SameLaws.{open-refuses, open-stands, words-decide, first-refused, second-refused, both-stand}
use Rattle.same.proofs.same.Goals as goal

pub returns-in_err-open : goal.returns-in_err-open
returns-in_err-open c =
    let o = open-refuses _ _ _ c.open.ensures.0 c.open.ensures.1 _ c.in_err-open.was in
    let p = err_from_is_err_and c.from_residual.result c.from_residual.ensures.1 in
    rw (p.1, p.2) (ap refused_verdict o.0 ∙ sym (first-refused _ _ o.1))

pub returns-in_err-open-2 : goal.returns-in_err-open-2
returns-in_err-open-2 c =
    let s = open-stands _ _ _ c.open.ensures.0 c.open.ensures.1 _ c.in_ok-open.was in
    let o = open-refuses _ _ _ c.open-2.ensures.0 c.open-2.ensures.1 _ c.in_err-open-2.was in
    let p = err_from_is_err_and c.from_residual-in_err-open-2.result c.from_residual-in_err-open-2.ensures.1 in
    rw (p.1, p.2) (ap refused_verdict o.0 ∙ sym (second-refused _ _ s.0 o.1))

pub returns : goal.returns
returns c =
    let s = open-stands _ _ _ c.open.ensures.0 c.open.ensures.1 _ c.in_ok-open.was in
    let t = open-stands _ _ _ c.open-2.ensures.0 c.open-2.ensures.1 _ c.in_ok-open-2.was in
    ap verdict (words-decide _ _ _ _ _ s.1 t.1 (search rules) (search rules) c.eq.ensures) ∙ sym (both-stand _ _ s.0 t.0)
