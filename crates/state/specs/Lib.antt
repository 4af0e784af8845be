pub mod Layout
pub mod Orderly
