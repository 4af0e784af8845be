-- Bytes written into a list from a place on, and texts put after one another in a room of fixed size.
use Rattle.std.specs.Prelude.{ℕ, ◌+◌, ◌≡◌, Bool, List, ◌++◌, leb, length}
use Rattle.std.proofs.lemmas.List.Edits.{sets}
use Rattle.base.specs.Choice.{pick}

-- l with the bytes of a text from a place on; the places before it and past its end stay
unfoldable pub written : ℕ → List ℕ → List ℕ → List ℕ
written place text l = sets l place text

-- whether l has room for a text from a place on
abbrev pub has_room : ℕ → List ℕ → List ℕ → Bool
has_room place text l = leb (place + length text) (length l)

-- m is l with a text from a place on, and `next` the place after it; without room l stays, and so does the place
abbrev pub PutWithin : ℕ → List ℕ → ℕ → List ℕ → List ℕ → Type 0
PutWithin place text next l m =
    (next ≡ pick (has_room place text l) (place + length text) place) × (m ≡ pick (has_room place text l) (written place text l) l)

-- l and a text after it; l alone where so much room has no place for both
unfoldable pub appended : ℕ → List ℕ → List ℕ → List ℕ
appended room text l = pick (leb (length l + length text) room) (l ++ text) l
