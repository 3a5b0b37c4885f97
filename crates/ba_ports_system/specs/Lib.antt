pub mod ReadSourceState
pub mod WriteSinkState
