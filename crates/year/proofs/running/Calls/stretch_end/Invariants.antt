-- `stretch_end` meets its contract. No call that the loop has passed is a closing.
use Rattle.year.proofs.StretchLaws.{NoneCloses}
use Rattle.year.proofs.running.Calls.stretch_end.Given as goal

abbrev pub invariant-loop-n : goal.invariant-loop-n
invariant-loop-n l = NoneCloses l.self.words.now l.first l.n
