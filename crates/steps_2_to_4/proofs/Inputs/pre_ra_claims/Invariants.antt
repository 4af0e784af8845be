-- `pre_ra_claims` meets its contract: after m turns the rows of the first m holders are written.
use Rattle.steps.specs.Step4a.{pre_ra_claim}
use Rattle.steps_2_to_4.specs.Reserved.{inputs}
use Rattle.steps_2_to_4.proofs.PartLaws.{Rows}
use Rattle.steps_2_to_4.proofs.Inputs.pre_ra_claims.Given as goal

abbrev pub invariant-loop-holder : goal.invariant-loop-holder
invariant-loop-holder l =
    Rows (pre_ra_claim (inputs l.self.read.tables.now l.self.read.interties l.self.read.holders)) l.self.read.holders l.initial.claims l.claims l.holder
