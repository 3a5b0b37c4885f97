pub mod Grammar
pub mod GrammarTexts
pub mod GrammarWords
pub mod Places
