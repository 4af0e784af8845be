pub mod Kinds
pub mod Fields
pub mod Faults
pub mod Lines
pub mod Table
pub mod Workers
