pub mod SwapLaws
pub mod BoundLaws
pub mod AgreeLaws
pub mod AcceptedLaws
pub mod SheetValid
