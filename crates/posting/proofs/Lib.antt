pub mod PostLaws
pub mod PostedRows
pub mod Examples
