-- `fmt` meets its contract: the end of the sentence where there is no such column.
use Rattle.std.proofs.Common.{◌≡◌, sym, ap, ◌∙◌, rules, None}
use Rattle.std.specs.Option.{option_map}
use Rattle.sheet_table.specs.Faults.{column_name}
use Rattle.sheet_table.proofs.faults.UnreadableDisplay.fmt.Goals as goal

pub returns-in-None-clause-writes : goal.returns-in-None-clause-writes
returns-in-None-clause-writes g c =
    let none : column_name c.args.self.now.line c.args.self.now.column ≡ None =
    sym c.column_name.ensures ∙ ap (option_map (λ name. name.now)) c.in-None.is in
    rw none (search rules)
