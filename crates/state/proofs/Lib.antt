pub mod OrderlyLaws
pub mod FrameLaws
