pub mod CaseG
pub mod Printed
pub mod Filing
pub mod Table
pub mod YearOfCalls
