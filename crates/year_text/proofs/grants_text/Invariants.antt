-- `grants_text` meets its contract: after so many turns the grants of so many words are put.
use Rattle.base.proofs.Prelude.{◌≡◌}
use Rattle.text.specs.Lines.{each}
use Rattle.year_text.specs.Text.{grant_of}
use Rattle.year_text.proofs.grants_text.Given as goal

abbrev pub invariant-loop-word : goal.invariant-loop-word
invariant-loop-word l = l.text.items ≡ each l.word (grant_of l.grants l.interties)
