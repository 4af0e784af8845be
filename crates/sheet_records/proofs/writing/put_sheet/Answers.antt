-- `writing::put_sheet` meets its contract: its parts are written one after the other.
use Rattle.base.proofs.Prelude.{refl}
use Rattle.sheet_records.proofs.BytesLaws.{sheet-stored}
use Rattle.sheet_records.proofs.writing.put_sheet.Goals as goal

pub returns : goal.returns
returns c =
    let a = c.args in
    sheet-stored a.interties a.holders _ a.keys.now a.kws.now _ _ _ _ _ _ refl
    c.write_word.ensures c.write_word-2.ensures c.write_word-3.ensures
    c.write_words.ensures c.write_words-2.ensures
