-- What program `post` prints (docs/RULES.md, "Beside the year"), byte by byte: T; for each intertie its number, limit, outside, E, P, N,
-- unassigned; for each holder its number, load share, Load Share Quantity, reserved, Step 5 share. A refused sheet prints R and the number.
use Rattle.std.specs.Prelude.{ℕ, List, [], ◌∷◌, ◌++◌, eqb}
use Prim.Native.Char.{code}
use Rattle.base.specs.Choice.{pick}
use Rattle.text.specs.Lines.{blank, line_of, each}
use Rattle.sheet_records.specs.Refusal.{sheet_refusal}
use Rattle.steps.specs.Inputs.{Inputs, of_sheet}
use Rattle.steps.specs.Step2.{available_total, load_share_quantity}
use Rattle.steps.specs.Step4a.{existing_on}
use Rattle.steps.specs.Step5to7.{held, step5_share, unassigned}
use Rattle.posting.specs.Post.{pre_ra_on, new_use_on}

-- ASCII
abbrev pub letter_t : ℕ
letter_t = code "T"

abbrev pub letter_i : ℕ
letter_i = code "I"

abbrev pub letter_h : ℕ
letter_h = code "H"

abbrev pub letter_r : ℕ
letter_r = code "R"

-- a line: a letter, and numbers in decimal, each after a blank
abbrev pub line : ℕ → List ℕ → List ℕ
line letter numbers = line_of (letter ∷ []) blank numbers

module _ (y : Inputs) where
  -- T
  abbrev pub total_line : List ℕ
  total_line = line letter_t (available_total y ∷ [])

  -- of intertie i its number, limit, outside, E, P, N, unassigned
  abbrev pub intertie_line : ℕ → List ℕ
  intertie_line i =
      line letter_i (i ∷ y.limit i ∷ y.outside i ∷ existing_on y i ∷ pre_ra_on y i ∷ new_use_on y i ∷ unassigned y i ∷ [])

  -- of holder h its number, load share, Load Share Quantity, reserved, Step 5 share
  abbrev pub holder_line : ℕ → List ℕ
  holder_line h = line letter_h (h ∷ y.load_share h ∷ load_share_quantity y h ∷ held y h ∷ step5_share y h ∷ [])

  -- all lines
  unfoldable pub posting_text : List ℕ
  posting_text = total_line ++ each y.interties intertie_line ++ each y.holders holder_line

-- R and the number
abbrev pub refusal_line : ℕ → List ℕ
refusal_line number = line letter_r (number ∷ [])

-- what `post` prints of a sheet
unfoldable pub text_of : List ℕ → List ℕ
text_of sheet = pick (eqb (sheet_refusal sheet) 0) (posting_text (of_sheet sheet)) (refusal_line (sheet_refusal sheet))
