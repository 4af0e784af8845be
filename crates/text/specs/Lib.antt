pub mod Ascii
pub mod Written
pub mod Decimal
pub mod Pieces
pub mod Lines
pub mod Left
