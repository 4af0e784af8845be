-- `run_all` meets its contract. Each stretch has a call at least.
use Rattle.base.proofs.Prelude.{◌-◌, ◌≤◌, ◌≡◌, length}
use Rattle.year.specs.Year.{YearRan}
use Rattle.year.proofs.running.Calls.run_all.Given as goal

abbrev pub invariant-loop-first : goal.invariant-loop-first
invariant-loop-first g l =
    (l.first ≤ l.self.count) × (length l.answers ≡ length l.initial.answers) × (length l.state ≡ length l.initial.state)
    × YearRan l.self.words.now l.initial.state l.initial.answers l.first l.state l.answers

abbrev pub decreases-loop-first : goal.decreases-loop-first
decreases-loop-first g l = l.self.count - l.first
