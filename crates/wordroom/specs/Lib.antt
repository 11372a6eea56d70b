pub mod Room
pub mod Tables
