pub mod Classes
pub mod inside
