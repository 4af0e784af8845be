-- The table of examples (docs/RULES.md, "Examples"), a to i and the filing's, in one statement.
use Prim.Native.Nat.{ℕ}
use mathlib.Core.Path.{◌≡◌}
use mathlib.Core.List.{List, ◌++◌}
use lib.ListN.{length}
use Rattle.share_out.proofs.Examples as ShareOut
use Rattle.holding.proofs.Examples as Holding
use Rattle.posting.proofs.Examples as Posting
use Rattle.posting.specs.Rows.{posting_numbers}
use Rattle.posting.specs.Post.{posted}
use Rattle.text.specs.Ascii.{ascii}
use Rattle.posting_text.proofs.Examples as PostingText
use Rattle.examples.proofs.CaseG.{CaseG, case-g}
use Rattle.examples.proofs.Printed.{Printed, printed}
use Rattle.examples.proofs.Filing.{Table5, table-5}

-- the lines of case i
abbrev pub printed_i : List ℕ
printed_i =
    ascii "T 100000\n"
    ++ ascii "I 0 110000 10000 30000 0 0 70000\n"
    ++ ascii "H 0 50000 50000 0 43750\n"
    ++ ascii "H 1 30000 30000 0 26250\n"
    ++ ascii "H 2 20000 20000 30000 0\n"

pub record Table : Type 0 where
  -- a to f: share-outs, as pool; claims; weights gives grants, kW, passes, in any output with room
  pub a-to-f : ShareOut.Cases
  -- g: sellers with 50,000 (twice) and 30,000: weight 40,000
  pub g : CaseG
  -- h: reserved 30, Step 7 total 100, placed 46, no lock: lock 45 stands, 46 is refused 13
  pub h : Holding.CaseH
  -- i: what `post` answers of the sheet, whatever stood in its ten rows before, and what it prints
  pub i : (l : List ℕ) → length l ≡ posting_numbers → Posting.CaseI (posted Posting.sheet_i l)
  pub i-printed : Printed Posting.sheet_i printed_i
  -- Table 5 of the operator's filing
  pub filing : Table5

pub table : Table
table =
    record {
      a-to-f = ShareOut.cases;
      g = case-g;
      h = Holding.case-h;
      i = Posting.case-i;
      i-printed = printed Posting.sheet_i printed_i PostingText.case-i;
      filing = table-5;
    }
