pub mod Journals
pub mod Listing
pub mod inside
