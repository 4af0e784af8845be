pub mod Inputs
pub mod Tables
pub mod Step2
pub mod Step4a
pub mod Valid
pub mod Step4b
pub mod Step5to7
