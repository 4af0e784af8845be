pub mod StoreLaws
pub mod FrontLaws
pub mod WriteLaws
