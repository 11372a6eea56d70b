-- Laws of rows in chains and of backward sets that grow, by subject.
pub mod Rows
pub mod Chaining
pub mod Fires
