pub mod BlockLaws
pub mod MarkLemmas
pub mod WrittenBlocks
pub mod WrittenEnvelopes
pub mod WrittenNotifications
