-- Laws that the proofs of functions cite, by subject.
pub mod Chained
pub mod Checks
pub mod ValidImage
pub mod Reading
pub mod BackwardSets
pub mod RowWalks
pub mod EachSymbol
pub mod PickedRuns
pub mod PickWalks
pub mod AcceptedWords
pub mod WordTests
