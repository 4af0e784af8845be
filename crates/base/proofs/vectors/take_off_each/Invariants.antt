-- `take_off_each` meets its contract: after m turns the first m lists are taken off.
use Rattle.std.proofs.Common.{◌≡◌, ℕ, List, []}
use lib.ListN.{get_or}
use Rattle.base.specs.Words.{at}
use Rattle.base.proofs.VectorLaws.{lowered}
use Rattle.base.proofs.vectors.take_off_each.Given as goal

abbrev pub number : List (List ℕ) → ℕ → ℕ → ℕ
number lists h c = at (get_or lists h []) c

abbrev pub invariant-loop-list : goal.invariant-loop-list
invariant-loop-list g l = l.row ≡ lowered (number l.lists) l.initial.row l.list-index
