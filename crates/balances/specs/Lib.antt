pub mod Calls
pub mod Amounts
pub mod Balances
pub mod Order
