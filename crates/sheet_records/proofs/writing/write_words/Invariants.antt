-- `writing::write_words` meets its contract: after k turns the first k words are written.
use Rattle.base.proofs.Prelude.{◌≡◌, ◌*◌, length, take}
use lib.Seq.{sets}
use Rattle.sheet_records.specs.Bytes.{bytes_of}
use Rattle.sheet_records.proofs.writing.write_words.Given as goal

abbrev pub invariant-loop-k : goal.invariant-loop-k
invariant-loop-k l = (length l.output ≡ length l.initial.output) × (l.output ≡ sets l.initial.output (4 * l.first) (bytes_of (take l.k l.words)))
