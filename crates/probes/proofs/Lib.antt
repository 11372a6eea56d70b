-- Laws of what the tests are given.
pub mod Walks
