-- What private functions ask and promise one another. No public contract cites these; a reader need not believe them.
pub mod Said
