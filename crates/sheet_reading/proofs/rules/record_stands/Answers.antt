-- `sheet_reading::rules::record_stands` meets its contract: what the kind says of each field and of the quantity is its rule.
use Rattle.base.proofs.Prelude.{rules}
use Rattle.sheet_reading.proofs.RuleLaws.{record-rule}
use Rattle.sheet_reading.proofs.rules.record_stands.Goals as goal

pub returns : goal.returns
returns c =
    let k = c.from-key.ensures in
    record-rule _ _ _ _ _ _ _ _ _ _ _ _ _ _ _ k.0 k.1 k.2 k.3 k.4 c.rule_of-rule.ensures
    c.field_stands.ensures c.field_stands-2.ensures c.field_stands-3.ensures (search rules) (search rules)
