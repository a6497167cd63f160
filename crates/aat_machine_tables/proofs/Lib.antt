pub mod Faultless
pub mod GridAnswers
pub mod RuleFaults
pub mod RowAnswers
