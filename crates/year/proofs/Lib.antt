pub mod YearLaws
pub mod TradeLaws
pub mod StretchLaws
pub mod JournalLaws
