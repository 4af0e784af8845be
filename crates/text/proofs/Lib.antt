pub mod WrittenLaws
pub mod PieceLaws
pub mod DecimalLaws
pub mod ReadLaws
pub mod LineLaws
pub mod PutLaws
pub mod EachLaws
pub mod Examples
