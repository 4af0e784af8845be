pub mod NewUse
pub mod Workers
