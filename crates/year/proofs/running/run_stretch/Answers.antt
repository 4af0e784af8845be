-- `run_stretch` meets its contract: what is printed of a stretch changes none of its words.
use Rattle.std.proofs.Common.{ap, not}
use Rattle.std.specs.Prelude.{Result, Ok, Err, OnOk}
use Rattle.year.proofs.StretchLaws.{was-run}
use Rattle.year.proofs.running.run_stretch.Goals as goal

on-ok : {T E P : Type 0} (r : Result T E) → P → OnOk r P
on-ok (Ok x) p = p
on-ok (Err e) p = tt

pub returns : goal.returns
returns g c =
    on-ok _ (was-run c.args.calls.now c.args.state.now c.args.answers.now c.run_calls.result c.run_calls.ensures (ap not c.if-not-run_calls.false))
