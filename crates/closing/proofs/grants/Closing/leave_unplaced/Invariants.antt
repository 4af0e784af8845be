-- `leave_unplaced` meets its contract: after h turns the first h holders' grants are taken off.
use Rattle.base.proofs.Prelude.{ℕ, ◌-◌, ◌%◌, ◌^◌, List, sum_to, at}
use Rattle.base.proofs.VectorLaws.{Filling}
use Rattle.intertie_shares.specs.Pairs.{at_pair}
use Rattle.closing.proofs.grants.Closing.leave_unplaced.Given as goal

-- what is left of a number once a holder's grants are taken off
abbrev pub left : List ℕ → List ℕ → ℕ → ℕ → ℕ
left row table interties h = at row h - sum_to interties (λ i. at_pair table h i) % 2 ^ 64

abbrev pub invariant-loop-holder : goal.invariant-loop-holder
invariant-loop-holder l = Filling (left l.initial.row l.self.table.now l.interties) l.initial.row l.row l.holder
