pub mod Trade
pub mod Request
