pub mod Faults
pub mod Sizes
pub mod Words
pub mod Calls
pub mod Journals
pub mod Workers
