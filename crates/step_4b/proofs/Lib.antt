pub mod Examples
pub mod UsedLaws
pub mod RankLaws
pub mod Promise
pub mod LoopLaws
