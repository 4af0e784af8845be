pub mod TextLaws
pub mod CutLaws
