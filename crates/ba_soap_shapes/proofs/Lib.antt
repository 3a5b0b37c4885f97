pub mod ElementLaws
pub mod FitAnswer
pub mod WrittenEndpoints
pub mod WrittenShapes
