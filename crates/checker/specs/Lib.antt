pub mod Stage
pub mod Calls
