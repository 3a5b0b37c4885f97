pub mod Command
pub mod Notes
pub mod Run
