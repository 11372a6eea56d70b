-- Laws that the proofs of functions cite.
pub mod SecondLine
