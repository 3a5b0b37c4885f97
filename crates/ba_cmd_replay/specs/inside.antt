pub mod Plays
pub mod WorldPlays
