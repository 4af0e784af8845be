-- `share_out_each` meets its contract: refused with 5, or shared out on each intertie.
use Rattle.base.proofs.Prelude.{sym, ap, ◌∙◌, arith}
use Rattle.std.proofs.lemmas.List.{length-take-le}
use Rattle.intertie_shares.specs.Pairs.{at_pair}
use Rattle.share_out.specs.Rule.{Outcome}
use Rattle.intertie_shares.proofs.OutcomeLaws.{five-refused, short-refused, sizes-left, over-cut, each-done, front-done}
use Rattle.intertie_shares.proofs.share_out_each.Goals as goal

pub returns-then-unfit_sizes : goal.returns-then-unfit_sizes
returns-then-unfit_sizes c = let a = c.args in
    let o = five-refused a.interties a.holders a.pools.now a.claims.now a.weights.now a.grants.now (sym c.unfit_sizes.ensures ∙ c.if-unfit_sizes.true) in
    (sym (ap (λ (r : Outcome). r.answer) o), sym (ap (λ (r : Outcome). r.output) o))

pub returns-in_default : goal.returns-in_default
returns-in_default c = let a = c.args in
    let o = short-refused a.interties a.holders a.pools.now a.claims.now a.weights.now a.grants.now
    (sym c.unfit_sizes.ensures ∙ c.if-unfit_sizes.false) c.in_default.ensures.cases in
    (sym (ap (λ (r : Outcome). r.answer) o), sym (ap (λ (r : Outcome). r.output) o))

pub returns : goal.returns
returns c = let a = c.args in
    let cut = c.in-Some.ensures.cases in
    let fit = sizes-left a.interties a.holders a.pools.now a.claims.now a.weights.now a.grants.now
    (sym c.unfit_sizes.ensures ∙ c.if-unfit_sizes.false) cut.enough in (
      c.on_each.ensures.0 ∙ ap (λ (r : Outcome). r.answer) (over-cut a.interties a.holders a.pools.now a.weights.now a.grants.now (at_pair a.claims.now) fit.pooled fit.weighed)
          ∙ sym (ap (λ (r : Outcome). r.answer) (each-done _ _ _ _ _ _ fit)),
      front-done _ _ _ _ _ _ _ _ fit cut.same
          (c.on_each.ensures.1 ∙ ap (λ (r : Outcome). r.output) (over-cut a.interties a.holders a.pools.now a.weights.now _ (at_pair a.claims.now) fit.pooled fit.weighed)),
    )

pub slice_bounds-pools-end : goal.slice_bounds-pools-end
slice_bounds-pools-end c = let a = c.args in
    sym
    (length-take-le a.interties a.pools.now
    (sizes-left a.interties a.holders a.pools.now a.claims.now a.weights.now a.grants.now
    (sym c.unfit_sizes.ensures ∙ c.if-unfit_sizes.false) c.in-Some.ensures.cases.enough).pooled)

pub slice_bounds-weights-end : goal.slice_bounds-weights-end
slice_bounds-weights-end c = let a = c.args in
    sym
    (length-take-le a.holders a.weights.now
    (sizes-left a.interties a.holders a.pools.now a.claims.now a.weights.now a.grants.now
    (sym c.unfit_sizes.ensures ∙ c.if-unfit_sizes.false) c.in-Some.ensures.cases.enough).weighed)

pub invariant_of-claims : goal.invariant_of-claims
invariant_of-claims c = let a = c.args in
    let fit = sizes-left a.interties a.holders a.pools.now a.claims.now a.weights.now a.grants.now
    (sym c.unfit_sizes.ensures ∙ c.if-unfit_sizes.false) c.in-Some.ensures.cases.enough in
    record {
      few_interties = omega (arith, fit.interties, length-take-le a.interties a.pools.now fit.pooled);
      few_holders = omega (arith, fit.holders, length-take-le a.holders a.weights.now fit.weighed);
      claimed = fit.claimed;
      light = c.all_within-weighable.ensures;
    }
