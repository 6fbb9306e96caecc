pub mod Vocabulary
pub mod Texts
pub mod Reads
pub mod Answers
