pub mod Answers
pub mod Bodies
pub mod Messages
pub mod inside
