-- The words of a line that are still to come.
use Rattle.std.specs.Prelude.{ℕ, List}
use Rattle.journal.specs.Words.{words}
use Rattle.journal.specs.declared.words.Words.{Words}

abbrev pub words_left : Words → List (List ℕ)
words_left left = words left.rest.now
