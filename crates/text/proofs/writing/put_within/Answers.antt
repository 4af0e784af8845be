-- `put_within` meets its contract: without room nothing is written, with room the text.
use Rattle.base.proofs.Prelude.{refl, arith}
use Rattle.text.proofs.WrittenLaws.{copied}
use Rattle.text.proofs.PutLaws.{fits-put, no_room}
use Rattle.text.proofs.writing.put_within.Goals as goal

pub returns-then-out-text : goal.returns-then-out-text
returns-then-out-text c = let a = c.args in no_room a.at a.text.now a.out.now (omega arith)

pub returns-then-out-text-2 : goal.returns-then-out-text-2
returns-then-out-text-2 c = let a = c.args in no_room a.at a.text.now a.out.now (omega arith)

pub returns : goal.returns
returns c =
    let a = c.args in
    fits-put _ _ _ _ _ (omega arith)
    (refl, rw c.copy_from_slice.ensures.after (copied a.at _ a.text.now a.out.now (omega arith) (omega arith)))
