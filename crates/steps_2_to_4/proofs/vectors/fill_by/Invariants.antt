-- `fill_by` meets its contract: after c turns the first c places have their figures, whatever these are.
use Rattle.base.proofs.Prelude.{ℕ, ◌<◌, ◌≡◌, length}
use Rattle.base.proofs.VectorLaws.{Filling}
use Rattle.steps_2_to_4.proofs.vectors.fill_by.Given as goal

abbrev pub invariant-loop-c : goal.invariant-loop-c
invariant-loop-c g l =
    (f : ℕ → ℕ) → ((c r : ℕ) → c < length l.initial.row → goal.F-post g l.figure c r → r ≡ f c) → Filling f l.initial.row l.row l.c
