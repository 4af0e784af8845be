-- What a call answers: a refusal's number with 0 kW and 0 passes, or number 0 with the kW and the passes.
use Rattle.std.specs.Prelude.{ℕ}
use Rattle.base.specs.declared.Answer.{Answer}

abbrev pub refused : ℕ → Answer
refused number = record { refusal = number; kw = 0; passes = 0 }

abbrev pub granted : ℕ → ℕ → Answer
granted k p = record { refusal = 0; kw = k; passes = p }
