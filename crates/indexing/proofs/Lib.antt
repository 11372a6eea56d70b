-- Laws of the searches, the index and what leaves, by subject.
pub mod Listing
pub mod Lacking
pub mod Leavers
