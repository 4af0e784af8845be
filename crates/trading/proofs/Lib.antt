pub mod StepLaws
pub mod KeepLaws
pub mod MaskLaws
pub mod TradeLaws
pub mod RequestLaws
