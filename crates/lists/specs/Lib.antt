pub mod Encoded
pub mod Left
pub mod Workers
