pub mod Headings
pub mod Names
pub mod Octets
pub mod References
pub mod Remaining
pub mod Words
