-- Laws of the word room.
pub mod Changes
