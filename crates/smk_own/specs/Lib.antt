pub mod Image
pub mod Keeping
pub mod Answering
pub mod Leads
