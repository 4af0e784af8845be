pub mod Move
pub mod Lock
