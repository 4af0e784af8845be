-- `share` meets its contract: its two answers are the definition's two cases.
use Rattle.base.proofs.Prelude.{sym, ap, ◌∙◌, arith, rules, tab}
use Rattle.share_out.specs.Rule.{Shared}
use Rattle.share_out.proofs.NumberLaws.{fit-pool, fit-weights}
use Rattle.share_out.proofs.Promise.{shared-fits}
use Rattle.share_out.proofs.OutcomeLaws.{claimed-whole, answer-whole, answer-passes}
use Rattle.share_out.proofs.share.Goals as goal

pub returns-then-total-pool : goal.returns-then-total-pool
returns-then-total-pool c =
    let a = c.args in
    let sum = claimed-whole c.requires c.sum_of-total.ensures in (
      answer-whole a.pool a.claims.now a.weights.now c.sum_of-total.result sum c.if-total-pool.true,
      c.grant_all.ensures
          ∙ sym (ap (λ (s : Shared). s.grants) (shared-fits a.pool a.claims.now a.weights.now (omega (arith, sum)))),
    )

pub by_passes-passes-requires : goal.by_passes-passes-requires
by_passes-passes-requires c =
    let p = c.requires in
    let sum = claimed-whole p c.sum_of-total.ensures in
    record {
      sized = record { few = p.sized.few; weighed = p.sized.weighed; granted = search rules };
      pooled = fit-pool _ _ _ p.ranged;
      weighted = fit-weights _ _ _ p.ranged;
      short = omega (arith, sum);
      fresh = c.clear.ensures ∙ ap (λ n. tab n (λ i. 0)) p.sized.granted;
    }

pub returns : goal.returns
returns c =
    let a = c.args in
    let sum = claimed-whole c.requires c.sum_of-total.ensures in
    let made = c.by_passes-passes.ensures in (
      answer-passes a.pool a.claims.now a.weights.now _ _ (omega (arith, sum, c.if-total-pool.false)) made,
      sym (ap (λ (s : Shared). s.grants) made),
    )
