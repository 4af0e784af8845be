pub mod Pairs
pub mod Rule
pub mod Workers
