-- `read_line` meets its contract, case by case.
use Rattle.base.proofs.Prelude.{sym, ap, ◌∙◌, rules}
use Rattle.std.specs.Prelude.{Err}
use Rattle.sheet_table.specs.Lines.{entry_of, entry_on}
use Rattle.sheet_table.proofs.ReadingLaws.{line-empty, line-over, line-says}
use Rattle.sheet_table.proofs.lines.read_line.Goals as goal

pub returns-then-is_empty : goal.returns-then-is_empty
returns-then-is_empty c = line-empty c.args.number c.args.count _ (search rules) ∙ ap (entry_of c.args.number c.args.count) c.bare-text.ensures

pub returns-then-count-ge-MOST_RECORDS : goal.returns-then-count-ge-MOST_RECORDS
returns-then-count-ge-MOST_RECORDS c = line-over c.args.number c.args.count _ (search rules) (search rules) ∙ ap (entry_of c.args.number c.args.count) c.bare-text.ensures

pub returns : goal.returns
returns c =
    search rules
    ∙ line-says c.args.number c.args.count _ (search rules) (search rules) _ c.read_entry.ensures
    ∙ ap (entry_of c.args.number c.args.count) c.bare-text.ensures
