-- Laws of the growth over tables, by subject.
pub mod Begins
pub mod Copies
pub mod Settles
pub mod Tries
