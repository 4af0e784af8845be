-- `change_row` meets its contract: after n turns the first n words of the part are changed.
use Rattle.std.proofs.Common.{◌+◌}
use Rattle.base.specs.Words.{at}
use Rattle.base.proofs.VectorLaws.{Filling}
use Rattle.state_rows.proofs.change_row.Given as goal

abbrev pub invariant-loop-column : goal.invariant-loop-column
invariant-loop-column g l =
    let part = l.initial.word-items in
    Filling (λ c. g.C.Change.gives l.table (at part c) (l.from + c)) part l.word-items l.column
