pub mod Pages
pub mod PieceTexts
pub mod Schemas
