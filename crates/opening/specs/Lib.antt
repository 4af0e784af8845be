pub mod Opened
pub mod Open
pub mod Unnamed
pub mod Workers
