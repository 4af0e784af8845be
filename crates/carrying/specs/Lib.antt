pub mod NextRecord
pub mod NextRecords
pub mod NewSheet
pub mod Carry
pub mod Workers
