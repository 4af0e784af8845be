-- `Filled::rules_hold` meets its contract: the ranks of all holders stand in one row.
use Rattle.base.proofs.Prelude.{rules, arith}
use Rattle.sheet_reading.proofs.DecideLaws.{rules-by-parts}
use Rattle.sheet_reading.proofs.refusal.Filled.rules_hold.Goals as goal

pub returns : goal.returns
returns c =
    let a = c.args.self in
    rules-by-parts a.counts.now a.holders a.interties a.few_interties a.few_holders (search rules) _ _ _ _ _ _
    c.counts_within.ensures c.counts_within-2.ensures c.counts_within-3.ensures (omega arith) (omega arith)
