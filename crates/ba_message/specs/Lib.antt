pub mod Addresses
pub mod Dialing
pub mod Endpoints
pub mod Letters
