pub mod Marks
pub mod MarkLaws
pub mod Views
pub mod KeptLaws
