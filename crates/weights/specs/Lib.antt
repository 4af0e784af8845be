pub mod Weight
pub mod Workers
