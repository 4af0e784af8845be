pub mod Text
pub mod Workers
