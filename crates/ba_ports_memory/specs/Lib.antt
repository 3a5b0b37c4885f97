pub mod DiskValue
pub mod OutState
pub mod ScriptLinkState
pub mod TextState
pub mod inside
