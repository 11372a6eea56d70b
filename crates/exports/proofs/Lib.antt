-- Laws of what the C interface gives back.
pub mod Calls
pub mod Prints
pub mod Reasons
