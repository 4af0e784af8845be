pub mod Headed
pub mod Tables
pub mod Workers
