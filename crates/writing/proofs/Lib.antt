-- Laws that the proofs of functions cite here and above, by subject.
pub mod Decimals
pub mod Placing
pub mod LinesPut
pub mod ReadingBack
