pub mod Year
pub mod Workers
