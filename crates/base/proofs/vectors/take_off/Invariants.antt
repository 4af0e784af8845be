-- `take_off` meets its contract: after c turns the first c words are written; past the list's end nothing is taken off.
use Rattle.std.proofs.Common.{ℕ, ◌-◌, List}
use Rattle.base.specs.Words.{at}
use Rattle.base.proofs.VectorLaws.{Filling}
use Rattle.base.proofs.vectors.take_off.Given as goal

abbrev pub word : List ℕ → List ℕ → ℕ → ℕ
word list row c = at row c - at list c

abbrev pub invariant-loop-c : goal.invariant-loop-c
invariant-loop-c l = Filling (word l.list l.initial.row) l.initial.row l.row l.c
