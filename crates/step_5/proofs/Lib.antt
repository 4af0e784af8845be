pub mod Examples
pub mod RoundLaws
pub mod ShareLaws
pub mod Promise
pub mod FitLaws
pub mod LoopLaws
pub mod OutcomeLaws
