pub mod PartLaws
pub mod ClaimLaws
pub mod ReserveLaws
pub mod StepLaws
