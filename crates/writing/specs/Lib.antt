pub mod Decimal
pub mod Lines
pub mod Rooms
pub mod Putting
