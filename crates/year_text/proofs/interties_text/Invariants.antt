-- `interties_text` meets its contract: after i turns the first i lines are put.
use Rattle.base.proofs.Prelude.{◌≡◌}
use Rattle.text.specs.Lines.{each}
use Rattle.year_text.specs.Text.{intertie_line}
use Rattle.year_text.proofs.interties_text.Given as goal

abbrev pub invariant-loop-intertie : goal.invariant-loop-intertie
invariant-loop-intertie l = l.text.items ≡ each l.intertie (intertie_line l.state)
