pub mod UniformLaws
pub mod BufferLaws
pub mod SharingLaws
pub mod StoreLaws
pub mod ClosedLaws
pub mod GrantLaws
pub mod CloseLaws
pub mod AcceptedLaws
