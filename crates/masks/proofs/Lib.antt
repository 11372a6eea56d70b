-- Laws of sets of states, and of the numbers that hold them.
pub mod Digits
pub mod Laws
