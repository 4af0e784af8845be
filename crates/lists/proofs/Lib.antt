pub mod AnswerLaws
pub mod EncodedLaws
pub mod RunLaws
pub mod RunBalances
