mod Fronts
pub mod Stops
mod FileReads
mod TableLoads
mod NamedTables
pub mod LinesBring
mod AddedReads
pub mod ScriptReads
mod WordsTaken
