pub mod Trades
pub mod Figures
