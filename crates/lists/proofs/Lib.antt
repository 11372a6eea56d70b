-- Laws of joined tests and of lists.
pub mod Tests
pub mod Lists
pub mod Pairs
pub mod Counting
