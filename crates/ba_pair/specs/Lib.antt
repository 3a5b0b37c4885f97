pub mod LineText
pub mod PairPlay
pub mod PairState
pub mod Recorded
