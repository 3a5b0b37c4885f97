pub mod Joining
pub mod Registering
pub mod Ticking
