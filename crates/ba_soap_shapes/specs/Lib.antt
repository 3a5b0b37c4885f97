pub mod Elements
pub mod Endpoints
pub mod Forms
pub mod Shapes
