pub mod Acted
pub mod Asked
pub mod Made
pub mod Noticed
pub mod Placed
pub mod Planned
pub mod Registered
pub mod Ticked
