-- Laws of the rises, by subject.
pub mod Composing
pub mod Along
pub mod Levels
pub mod Blocked
