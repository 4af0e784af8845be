pub mod TextLaws
pub mod PostedLaws
pub mod Examples
