use Rattle.weights.specs.Weight.{weight_of}
use Rattle.weights.proofs.FillLaws.{Filled}
use Rattle.weights.proofs.Holders.write_weights.Given as goal

-- `write_weights` meets its contract: after h turns the first h holders have their weights.
abbrev pub invariant-loop-holder : goal.invariant-loop-holder
invariant-loop-holder l = Filled (weight_of l.self) l.holder-end l.initial.weights l.weights l.holder
