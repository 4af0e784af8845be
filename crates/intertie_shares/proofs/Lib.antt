pub mod PairLaws
pub mod HolderLaws
pub mod IntertieLaws
pub mod OutcomeLaws
pub mod LoopLaws
pub mod Promise
