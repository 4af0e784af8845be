-- A line of text: a label, figures in decimal, each after a separator, and a line end. Texts one after the other.
use Rattle.std.specs.Prelude.{ℕ, zero, suc, ◌&&◌, List, [], ◌∷◌, ◌++◌, leb, length}
use Prim.Native.Char.{code}
use Prim.Native.String as String
use Rattle.base.specs.Choice.{pick}
use Rattle.text.specs.Ascii.{ascii}
use Rattle.text.specs.Decimal.{decimal}

-- the bytes between figures and at the end of a line
abbrev pub blank : ℕ
blank = code " "

abbrev pub line_end : ℕ
line_end = code "\n"

-- the most bytes of a label, figures of a line, bytes of a figure with its separator, and bytes of a line
abbrev pub label_bytes : ℕ
label_bytes = 20

abbrev pub line_figures : ℕ
line_figures = 8

abbrev pub figure_bytes : ℕ
figure_bytes = 21

abbrev pub line_bytes : ℕ
line_bytes = 189

-- a separator and a number
unfoldable pub figure : ℕ → ℕ → List ℕ
figure separator n = separator ∷ decimal n

-- the figures one after the other
unfoldable pub figures_of : ℕ → List ℕ → List ℕ
figures_of separator [] = []
figures_of separator (n ∷ numbers) = figure separator n ++ figures_of separator numbers

-- a line, with no bound on its parts
unfoldable pub line_of : List ℕ → ℕ → List ℕ → List ℕ
line_of label separator numbers = label ++ figures_of separator numbers ++ (line_end ∷ [])

-- a line of a word and of numbers, each after a blank
abbrev pub line : String.String → List ℕ → List ℕ
line word numbers = line_of (ascii word) blank numbers

-- a line of at most so much label and so many figures; no text where there is more
unfoldable pub bounded_line : List ℕ → ℕ → List ℕ → List ℕ
bounded_line label separator numbers =
    pick (leb (length label) label_bytes && leb (length numbers) line_figures) (line_of label separator numbers) []

-- the texts f 0, f 1, .. f (n - 1) one after the other
unfoldable pub each : ℕ → (ℕ → List ℕ) → List ℕ
each zero f = []
each (suc n) f = each n f ++ f n
