-- Laws of the choices, by subject.
pub mod Symbols
pub mod Choosing
