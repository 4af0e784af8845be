-- What a call of the year gives: its answer, and the state after it.
use Rattle.std.specs.Prelude.{ℕ, List, Bool, eqb}
use Rattle.base.specs.Choice.{pick}
use Rattle.base.specs.Answers.{refused}
use Rattle.base.specs.declared.Answer.{Answer}

pub record Outcome : Type 0 where
  pub answer : Answer
  pub state : List ℕ

-- by the number of the refusal: 0 lets the call be done; any other is answered, and leaves the state as it was
abbrev pub decided : ℕ → List ℕ → Outcome → Outcome
decided number s done = pick (eqb number 0) done (record { answer = refused number; state = s })

-- the lowest number that applies, of two whose conditions are tried in turn
abbrev pub or_else : ℕ → ℕ → ℕ
or_else first second = pick (eqb first 0) second first

-- a number where its condition holds, else 0
abbrev pub whenever : Bool → ℕ → ℕ
whenever condition number = pick condition number 0
