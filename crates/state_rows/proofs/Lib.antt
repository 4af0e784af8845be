pub mod RowLaws
pub mod RowParts
pub mod FitLaws
