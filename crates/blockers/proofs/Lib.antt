-- Laws of the blocker room, by subject.
pub mod Over
pub mod Levels
pub mod Walks
pub mod WhyBlocked
pub mod Parts
pub mod Closing
pub mod Placing
pub mod Changes
