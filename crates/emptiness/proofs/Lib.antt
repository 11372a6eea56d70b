-- Laws that the proofs of functions cite.
pub mod Reading
pub mod Reports
