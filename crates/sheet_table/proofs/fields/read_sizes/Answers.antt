-- `read_sizes` meets its contract: I, then H.
use Rattle.base.proofs.Prelude.{sym, ap, ◌∙◌, [], ◌∷◌}
use Rattle.sheet_records.specs.Sheet.{most_word}
use Rattle.sheet_table.specs.Fields.{numbers_in}
use Rattle.sheet_table.proofs.EntryLaws.{sizes-read, sizes-stop, handed-fault}
use Rattle.sheet_table.proofs.fields.read_sizes.Goals as goal

pub returns : goal.returns
returns c =
    sizes-read _ c.in_ok-interties.field-0 (sym c.in_ok-interties.was ∙ c.read_numbers.ensures ∙ ap (numbers_in 1 (most_word ∷ most_word ∷ [])) c.split-fields.ensures)

pub returns-in_err-interties : goal.returns-in_err-interties
returns-in_err-interties c =
    handed-fault _ _ c.from_residual.ensures.1
    ∙ sizes-stop _ _ (sym c.in_err-interties.was ∙ c.read_numbers.ensures ∙ ap (numbers_in 1 (most_word ∷ most_word ∷ [])) c.split-fields.ensures)
