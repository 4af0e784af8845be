-- `run_all` meets its contract: the lent words after n calls are those of the definition.
use Rattle.lists.proofs.RunLaws.{Running}
use Rattle.lists.proofs.running.run_all.Given as goal

abbrev pub invariant-loop-n : goal.invariant-loop-n
invariant-loop-n l =
    Running l.fn.calls l.initial.state l.initial.grants l.initial.answers l.n l.start l.state l.grants l.answers
