-- Laws of the lists of covering blockers.
pub mod Covering
