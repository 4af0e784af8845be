pub mod Turn
pub mod Pass
pub mod Rule
pub mod Workers
