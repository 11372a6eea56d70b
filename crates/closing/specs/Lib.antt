pub mod Close
pub mod ByIndex
