pub mod Outcome
pub mod Tests
pub mod InStage
