-- Laws of the whole test, by subject.
pub mod Blocking
pub mod Passing
pub mod States
