pub mod Rows
pub mod Post
pub mod Workers
