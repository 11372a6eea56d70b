pub mod Sunk
