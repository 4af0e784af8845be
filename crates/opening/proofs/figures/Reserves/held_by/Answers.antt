-- `held_by` meets its contract: three sums along the holder's rows (`FigureLaws`).
use Rattle.base.proofs.Prelude.{arith, rules}
use Rattle.opening.proofs.FigureLaws.{existing-sum, pre-ra-sum, new-use-sum}
use Rattle.opening.proofs.figures.Reserves.held_by.Goals as goal

pub overflow_add-result : goal.overflow_add-result
overflow_add-result c =
    let given = c.args.self.given in
    let existing = existing-sum _ _ _ _ _ _ given (search rules) _ _ c.requires c.sum_of.ensures in
    let pre-ra = pre-ra-sum _ _ _ _ _ _ given (search rules) _ _ c.requires c.sum_of-2.ensures (search rules) in
    omega (arith, existing.1, pre-ra.1)

pub overflow_add-result-2 : goal.overflow_add-result-2
overflow_add-result-2 c =
    let given = c.args.self.given in
    let existing = existing-sum _ _ _ _ _ _ given (search rules) _ _ c.requires c.sum_of.ensures in
    let pre-ra = pre-ra-sum _ _ _ _ _ _ given (search rules) _ _ c.requires c.sum_of-2.ensures (search rules) in
    let new-use = new-use-sum _ _ _ _ _ _ given (search rules) _ _ c.requires c.sum_of-3.ensures (search rules) in
    omega (arith, existing.1, pre-ra.1, new-use.1)

pub returns : goal.returns
returns c =
    let given = c.args.self.given in
    let existing = (existing-sum _ _ _ _ _ _ given (search rules) _ _ c.requires c.sum_of.ensures).0 in
    let pre-ra = (pre-ra-sum _ _ _ _ _ _ given (search rules) _ _ c.requires c.sum_of-2.ensures (search rules)).0 in
    let new-use = (new-use-sum _ _ _ _ _ _ given (search rules) _ _ c.requires c.sum_of-3.ensures (search rules)).0 in
    cc
