-- Laws of growing through a hitting set.
pub mod Planes
pub mod Picks
pub mod Linking
pub mod Gathers
pub mod Covering
pub mod Few
pub mod Grows
