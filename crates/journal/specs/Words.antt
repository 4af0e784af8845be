-- The words of a line: what stands between blanks, one or more.
use Rattle.std.specs.Prelude.{ℕ, Bool, ◌||◌, List, [], ◌∷◌, eqb}
use Prim.Native.Char.{code}
use Rattle.text.specs.Pieces.{joined}

-- a blank, a tab or a carriage return
abbrev pub is_blank : ℕ → Bool
is_blank byte = eqb byte (code " ") || eqb byte 9 || eqb byte 13

-- the pieces between single blanks
unfoldable pub pieces : List ℕ → List (List ℕ)
pieces [] = [] ∷ []
pieces (byte ∷ line) = joined (is_blank byte) byte (pieces line)

-- those that are not empty
abbrev pub non_empty : List (List ℕ) → List (List ℕ)
non_empty [] = []
non_empty ([] ∷ others) = non_empty others
non_empty ((byte ∷ piece) ∷ others) = (byte ∷ piece) ∷ non_empty others

-- the words of a line
unfoldable pub words : List ℕ → List (List ℕ)
words line = non_empty (pieces line)
