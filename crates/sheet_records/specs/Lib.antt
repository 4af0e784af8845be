pub mod Sheet
pub mod Refusal
pub mod Reading
pub mod Bytes
