pub mod MoveLaws
pub mod LockLaws
pub mod Examples
