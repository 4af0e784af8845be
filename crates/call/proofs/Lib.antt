pub mod LadderLaws
pub mod TestLaws
pub mod StoreLaws
pub mod KeptLaws
