pub mod Bags
pub mod Enrolled
pub mod OfProtocol
pub mod Outcomes
pub mod Safety
pub mod Steps
