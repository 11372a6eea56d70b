-- Laws that the proofs of functions cite, by subject.
pub mod SetsBehind
pub mod Stepping
pub mod Lines
pub mod Prints
