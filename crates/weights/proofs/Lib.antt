pub mod FillLaws
pub mod WeightLaws
