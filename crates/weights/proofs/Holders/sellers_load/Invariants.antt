-- `sellers_load` meets its contract: after j turns the first j holders are looked at.
use Rattle.base.proofs.Prelude.{ℕ, ◌*◌, ◌≤◌, ◌≡◌, List, sum_to}
use Rattle.state.specs.Layout.{load_share_of}
use Rattle.weights.specs.Weight.{seller_bit}
use Rattle.weights.proofs.Holders.sellers_load.Given as goal

-- what a holder adds
abbrev pub counted : List ℕ → ℕ → ℕ → ℕ
counted state sellers j = seller_bit sellers j * load_share_of state j

abbrev pub invariant-loop-holder : goal.invariant-loop-holder
invariant-loop-holder l = (l.load ≤ l.holder * 4294967296) × (l.load ≡ sum_to l.holder (counted l.self l.sellers))
