-- What `post` prints of a sheet, as the contract of `posting_text` says it.
use Prim.Native.Nat.{ℕ, ◌≤◌}
use mathlib.Core.Path.{◌≡◌, ◌∙◌}
use mathlib.Core.List.{List, ◌++◌}
use lib.ListN.{length, drop}
use native.Mathlib.Nat.{zero-add}
use Rattle.text.specs.Written.{written}
use Rattle.text.proofs.WrittenLaws.{written_is}
use Rattle.posting_text.specs.Text.{text_of}

pub record Printed (sheet text : List ℕ) : Type 0 where
  -- these bytes
  pub text-is : text_of sheet ≡ text
  -- which `posting_text` answers: its contract says of its answer that it is the text of the sheet
  pub answered : (answer : List ℕ) → answer ≡ text_of sheet → answer ≡ text
  -- and which stand in the first places of any bytes with room that they are written to, whatever stands there; what stands past them
  -- stays
  pub output : (out : List ℕ) → length text ≤ length out → written 0 (text_of sheet) out ≡ text ++ drop (length text) out

pub printed : (sheet text : List ℕ) → text_of sheet ≡ text → Printed sheet text
printed sheet text is =
    record {
      text-is = is;
      answered = λ answer e. e ∙ is;
      output = λ out room. rw is (rw (zero-add (length text)) at (written_is 0 text out (rw (zero-add (length text)) room)));
    }
