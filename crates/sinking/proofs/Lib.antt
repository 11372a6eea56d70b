-- Laws of the rises by an index, by subject.
pub mod Covered
pub mod Sinking
pub mod Walking
pub mod Indexed
