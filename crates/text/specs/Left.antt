-- The pieces of a text that are still to come.
use Rattle.std.specs.Prelude.{ℕ, List, []}
use Rattle.std.specs.Option.{option_map_or}
use Rattle.text.specs.Pieces.{fields}
use Rattle.text.specs.declared.pieces.Pieces.{Pieces}

-- those of what is left of the text, none past its last piece
abbrev pub pieces_left : Pieces → List (List ℕ)
pieces_left pieces = option_map_or (λ rest. fields pieces.separator rest.now) pieces.rest []
