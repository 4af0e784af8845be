-- `new_use_claims` meets its contract: after m turns the rows of the first m holders are written.
use Rattle.base.proofs.Prelude.{ℕ, List, at}
use Rattle.sheet_reading.specs.declared.tables.Tables.{Tables}
use Rattle.steps_2_to_4.specs.Workers.Vectors.{kept_from}
use Rattle.steps_2_to_4.proofs.PartLaws.{Rows}
use Rattle.steps_2_to_4.proofs.Inputs.new_use_claims.Given as goal

abbrev pub claim : Tables → ℕ → List ℕ → List ℕ → ℕ → ℕ → ℕ
claim tables interties quantities granted h i = at (kept_from tables interties (at quantities h) granted h).kept i

abbrev pub invariant-loop-holder : goal.invariant-loop-holder
invariant-loop-holder l =
    Rows (claim l.self.read.tables.now l.self.read.interties l.quantities l.granted) l.self.read.holders l.initial.claims l.claims l.holder
