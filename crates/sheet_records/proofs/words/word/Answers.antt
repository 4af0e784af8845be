-- `words::word` meets its contract: the four bytes at its place say it.
use Rattle.sheet_records.proofs.ReadingLaws.{word-cut}
use Rattle.sheet_records.proofs.words.word.Goals as goal

pub returns : goal.returns
returns c = word-cut _ _ _ _ c.as_chunks.ensures.front c.from_le_bytes.ensures c.requires
