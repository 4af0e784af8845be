pub mod Calendar
pub mod Take
