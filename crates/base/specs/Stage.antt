-- The stages of the year as a type, and their numbers.
use Rattle.std.specs.Prelude.{ℕ}
use Rattle.base.specs.declared.stages.Stage.{Stage}
use Rattle.base.specs.declared.stages.Stage.TheVariants.{Trading, FirstRequests, SecondRequests, Open}
use Rattle.base.specs.Stages.{trading_stage, first_requests_stage, second_requests_stage, open_stage}

-- the number of a stage
abbrev pub number_of : Stage → ℕ
number_of Trading = trading_stage
number_of FirstRequests = first_requests_stage
number_of SecondRequests = second_requests_stage
number_of Open = open_stage
