-- The words of a state as the posting reads them.
use Rattle.std.specs.Prelude.{ℕ, ◌+◌, List}
use Rattle.base.specs.Sums.{sum_to}
use Rattle.base.specs.Words.{at}
use Rattle.state.specs.Layout.{place, limit_row, outside_row, existing_row, pre_ra_row, new_use_row, unassigned_row}
use Rattle.state.specs.Layout.{load_share_row, step5_share_row, reserved_row}
use Rattle.state_rows.specs.Rows.{fill_row}
use Rattle.posting.specs.Rows.{limit_line, outside_line, existing_line, pre_ra_line, new_use_line, unassigned_line}
use Rattle.posting.specs.Rows.{load_share_line, quantity_line, reserved_line, step5_share_line}

-- a row of the state, and a field of the pairs summed over the holders
abbrev pub row_word : List ℕ → ℕ → ℕ → ℕ
row_word state row c = at state (place row c)

abbrev pub field_on : List ℕ → ℕ → ℕ → ℕ → ℕ
field_on state field H i = sum_to H (λ h. at state (place (field + h) i))

-- the rows of the interties as the state's words give them
abbrev pub interties_from : ℕ → ℕ → List ℕ → List ℕ → List ℕ
interties_from I H state l =
    fill_row unassigned_line I (row_word state unassigned_row)
    (fill_row new_use_line I (field_on state new_use_row H)
    (fill_row pre_ra_line I (field_on state pre_ra_row H)
    (fill_row existing_line I (field_on state existing_row H)
    (fill_row outside_line I (row_word state outside_row)
    (fill_row limit_line I (row_word state limit_row) l)))))

-- the rows of the holders as the state's words and the row of Load Share Quantities give them
abbrev pub holders_from : ℕ → List ℕ → List ℕ → List ℕ → List ℕ
holders_from H state quantities l =
    fill_row step5_share_line H (row_word state step5_share_row)
    (fill_row reserved_line H (row_word state reserved_row)
    (fill_row quantity_line H (at quantities)
    (fill_row load_share_line H (row_word state load_share_row) l)))
