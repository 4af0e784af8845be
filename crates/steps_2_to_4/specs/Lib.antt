pub mod Reserved
pub mod Workers
