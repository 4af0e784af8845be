-- The bytes of a sheet: three words I, H and K, then K keys, then K quantities.
use Rattle.std.specs.Prelude.{ℕ, ◌/◌, ◌%◌, ◌≡◌, Bool, ◌&&◌, List, [], ◌∷◌, ◌++◌, leb, eqb, length, drop, Option, Some, None}
use Rattle.base.specs.Choice.{pick}
use Rattle.base.specs.Limits.{most_records}
use Rattle.sheet_records.specs.Sheet.{size_of}

-- a 32-bit word, its lowest byte first
abbrev pub word_bytes : ℕ → List ℕ
word_bytes w = w % 256 ∷ w / 256 % 256 ∷ w / 65_536 % 256 ∷ w / 16_777_216 % 256 ∷ []

-- words one after the other
unfoldable pub bytes_of : List ℕ → List ℕ
bytes_of [] = []
bytes_of (w ∷ words) = word_bytes w ++ bytes_of words

-- a sheet of I interties and H holders with given keys and quantities
unfoldable pub sheet_bytes : ℕ → ℕ → List ℕ → List ℕ → List ℕ
sheet_bytes I H keys kws = bytes_of (I ∷ H ∷ length keys ∷ keys ++ kws)

-- memory with a sheet in its first bytes; its later bytes stay
abbrev pub with_sheet : List ℕ → List ℕ → List ℕ
with_sheet sheet memory = sheet ++ drop (length sheet) memory

-- whether so many keys and quantities are a sheet that so many bytes hold
abbrev pub sheet_fits : ℕ → ℕ → ℕ → Bool
sheet_fits keys kws room = leb keys most_records && eqb kws keys && leb (size_of keys) room

-- what writing a sheet gives and leaves in memory: the number of its bytes, or none and nothing where it doesn't fit
pub record SheetWritten (I H : ℕ) (keys kws before : List ℕ) (bytes : Option ℕ) (after : List ℕ) : Type 0 where
  pub answer : bytes ≡ pick (sheet_fits (length keys) (length kws) (length before)) (Some (size_of (length keys))) None
  pub memory : after ≡ pick (sheet_fits (length keys) (length kws) (length before)) (with_sheet (sheet_bytes I H keys kws) before) before
