pub mod Round
pub mod Shares
pub mod Outcome
pub mod Workers
