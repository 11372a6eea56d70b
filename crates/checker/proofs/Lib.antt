-- Laws.
pub mod Checking
pub mod Records
pub mod Stages
pub mod Opening
pub mod Closing
pub mod Blocking
pub mod Working
pub mod Stepping
pub mod Starting
pub mod Calling
pub mod Going
