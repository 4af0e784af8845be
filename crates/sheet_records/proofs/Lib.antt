pub mod BytesLaws
pub mod OverLaws
pub mod RefusalLaws
pub mod ReadingLaws
