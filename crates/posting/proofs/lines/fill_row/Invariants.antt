-- `fill_row` meets its contract: after so many turns the first columns of the part have their figures, whatever these are.
use Rattle.base.proofs.Prelude.{ℕ, ◌<◌, ◌≡◌}
use Rattle.base.proofs.VectorLaws.{Filling}
use Rattle.posting.proofs.lines.fill_row.Given as goal

abbrev pub invariant-loop-column : goal.invariant-loop-column
invariant-loop-column g l =
    (f : ℕ → ℕ) → ((c r : ℕ) → c < l.count → goal.F-post g l.figure c r → r ≡ f c) → Filling f l.initial.number-items l.number-items l.column
