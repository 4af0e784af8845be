-- `unfit_numbers` meets its contract by the bits of all; by the pool, or number by number, as `numbers` (`NumberLaws`) says.
use Rattle.base.proofs.Prelude.{sym, ◌∙◌, arith}
use Rattle.share_out.proofs.NumberLaws.{surely-fit, all_fit}
use Rattle.share_out.proofs.unfit_numbers.Goals as goal

pub returns-then-surely_in_range : goal.returns-then-surely_in_range
returns-then-surely_in_range c =
    let claims = c.args.claims.now in
    let weights = c.args.weights.now in
    let w = c.weight_bits in
    sym
    (all_fit c.args.pool claims weights c.if-pool-gt-MOST_KW.false
    (surely-fit claims weights _ _ c.claim_bits.ensures (λ i l. w.ensures i (omega (arith, c.requires))) (sym c.surely_in_range.ensures ∙ c.if-surely_in_range.true)))
