-- `put_figures` meets its contract: after i turns the first i figures stand after the text.
use Rattle.base.proofs.Prelude.{◌≡◌, ◌++◌, take}
use Rattle.text.specs.Lines.{figures_of}
use Rattle.text.proofs.writing.put_figures.Given as goal

abbrev pub invariant-loop-figure : goal.invariant-loop-figure
invariant-loop-figure l = l.out.items ≡ l.initial.out.items ++ figures_of l.separator (take l.figure-index l.figures)
