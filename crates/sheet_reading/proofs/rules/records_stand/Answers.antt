-- `rules::records_stand` meets its contract: the tests of the records in turn.
use Rattle.base.proofs.Prelude.{rules}
use Rattle.base.proofs.Rules.{tests}
use Rattle.std.proofs.Common.{◌∙◌, ◌&&◌}
use Rattle.std.proofs.lemmas.Iterator.Consumers.{fold_from_yields_List, YieldsList-from_first}
use Rattle.sheet_records.specs.Refusal.{record_stands}
use Rattle.sheet_records.specs.declared.reader.Record.{Record}
use Rattle.sheet_records.proofs.RefusalLaws.{long-enough}
use Rattle.sheet_reading.proofs.HeadLaws.{passes}
use Rattle.sheet_reading.proofs.PassLaws.{tested-all}
use Rattle.sheet_reading.proofs.rules.records_stand.Goals as goal

pub returns : goal.returns
returns c =
    let whole = passes _ c.args.found.passed in
    fold_from_yields_List _ (λ stand (x : Record). stand && record_stands c.intertie_count-interties.result c.holder_count-holders.result x.key x.kw) _ _ c.fold.ensures.ran
    (YieldsList-from_first (λ x. x) (λ l. l) _ c.records.ensures)
    (λ a x b q k. search (rules, tests))
    ∙ tested-all _ whole _ _ (long-enough _ _ _ whole c.intertie_count-interties.ensures) (long-enough _ _ _ whole c.holder_count-holders.ensures)
