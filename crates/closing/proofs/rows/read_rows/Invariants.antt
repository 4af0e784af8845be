-- `read_rows` meets its contract: after c turns the first c words are read.
use Rattle.base.proofs.Prelude.{at}
use Rattle.base.proofs.VectorLaws.{Filling}
use Rattle.state.specs.Layout.{place}
use Rattle.closing.proofs.rows.read_rows.Given as goal

abbrev pub invariant-loop-c : goal.invariant-loop-c
invariant-loop-c l = Filling (λ c. at l.state (place l.row c)) l.initial.numbers l.numbers l.c
