-- `read_entry_of` meets its contract: a key and kilowatts, or the first fault.
use Rattle.base.proofs.Prelude.{sym, ◌∙◌}
use Rattle.sheet_table.proofs.EntryLaws.{entry-read, entry-stop, widths, handed-fault}
use Rattle.sheet_table.proofs.fields.read_entry_of.Goals as goal

pub pack-requires : goal.pack-requires
pack-requires c =
    let w = widths _ c.in_ok-holder.field-0 (sym c.in_ok-holder.was ∙ c.read_numbers.ensures) in
    (c.requires, w.0, w.1, w.2, w.3)

pub returns : goal.returns
returns c = entry-read c.args.kind _ c.in_ok-holder.field-0 _ (sym c.in_ok-holder.was ∙ c.read_numbers.ensures) c.pack.ensures

pub returns-in_err-holder : goal.returns-in_err-holder
returns-in_err-holder c =
    handed-fault _ _ c.from_residual.ensures.1
    ∙ entry-stop c.args.kind _ _ (sym c.in_err-holder.was ∙ c.read_numbers.ensures)
