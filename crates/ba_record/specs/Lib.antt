pub mod Coding
pub mod Endpoints
pub mod inside
pub mod Reading
pub mod Rooms
