pub mod CheckLaws
pub mod BalanceLaws
pub mod RowLaws
