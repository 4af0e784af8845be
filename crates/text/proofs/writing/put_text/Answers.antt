-- `put_text` meets its contract: the vector takes the text whole or not at all.
use Rattle.base.proofs.Prelude.{ap}
use Rattle.std.proofs.lemmas.Result.{on_err_weaker}
use Rattle.text.proofs.PutLaws.{appended-tried}
use Rattle.text.proofs.writing.put_text.Goals as goal

pub returns : goal.returns
returns g c =
    let tried = c.try_extend_from_slice.ensures in
    appended-tried _ g.row.N c.args.text.now c.args.out.now.items _ tried.variant tried.ok (on_err_weaker _ (ap (λ v. v.items)) tried.err)
