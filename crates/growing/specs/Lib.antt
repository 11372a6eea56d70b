pub mod Near
pub mod Kept
