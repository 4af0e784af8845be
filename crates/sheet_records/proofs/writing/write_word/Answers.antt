-- `writing::write_word` meets its contract: four bytes are copied to their place.
use Rattle.base.proofs.Prelude.{◌*◌, arith}
use Rattle.sheet_records.proofs.BytesLaws.{word-copied}
use Rattle.sheet_records.proofs.writing.write_word.Goals as goal

pub returns : goal.returns
returns c =
    let a = c.args in
    rw (c.copy_from_slice.ensures.after, c.to_le_bytes.ensures) (word-copied a.word (4 * a.place) _ a.output.now c.requires (omega arith))
