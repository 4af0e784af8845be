-- `put_call` meets its contract: six words are stored.
use Rattle.std.proofs.Common.{refl, arith}
use Rattle.journal.proofs.JournalLaws.{call-put}
use Rattle.journal.proofs.lines.put_call.Goals as goal

pub returns : goal.returns
returns c = (refl, call-put c.args.call c.args.place _ _ c.args.calls.now _ c.number.ensures (omega (arith, c.requires)) c.copy_from_slice.ensures.after (omega arith))
