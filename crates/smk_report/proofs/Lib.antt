pub mod Briefs
pub mod FullViews
mod Numbers
pub mod PageTexts
pub mod Parts
pub mod PieceTexts
