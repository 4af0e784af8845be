pub mod Close
pub mod Workers
