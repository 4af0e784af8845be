pub mod WordLaws
pub mod NumberLaws
pub mod CallLaws
pub mod JournalLaws
pub mod Promise
pub mod Examples
