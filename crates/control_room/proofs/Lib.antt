pub mod ChunkLaws
pub mod CutLaws
pub mod TradeLaws
pub mod FigureLaws
