-- What private functions know of what they are handed. No public contract cites these; a reader need not believe them.
pub mod Count
