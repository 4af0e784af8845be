pub mod SameLaws
