pub mod DirectEnvelopes
pub mod DirectTexts
pub mod NoFurther
pub mod PostedMessages
pub mod ReadAgain
