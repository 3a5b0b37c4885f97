pub mod Calls
pub mod Fits
pub mod Rules
pub mod Scope
pub mod inside
