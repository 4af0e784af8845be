-- A text cut into pieces at each separator.
use Rattle.std.specs.Prelude.{ℕ, suc, Bool, true, false, List, [], ◌∷◌, eqb}
use Rattle.base.specs.Choice.{pick}

-- how many bytes stand before the first separator, all where there is none
unfoldable pub before : ℕ → List ℕ → ℕ
before separator [] = 0
before separator (byte ∷ text) = pick (eqb byte separator) 0 (suc (before separator text))

-- a byte before pieces: a separator begins a new one, another byte stands in front of the first
abbrev pub joined : Bool → ℕ → List (List ℕ) → List (List ℕ)
joined true byte pieces = [] ∷ pieces
joined false byte [] = (byte ∷ []) ∷ []
joined false byte (piece ∷ pieces) = (byte ∷ piece) ∷ pieces

-- the pieces between the separators, one more than there are separators
unfoldable pub fields : ℕ → List ℕ → List (List ℕ)
fields separator [] = [] ∷ []
fields separator (byte ∷ text) = joined (eqb byte separator) byte (fields separator text)
