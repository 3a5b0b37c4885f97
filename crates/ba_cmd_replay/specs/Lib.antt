pub mod Replay
pub mod WorldReplay
pub mod inside
