pub mod Apart
pub mod Firsts
pub mod InOrder
pub mod KeptTexts
pub mod MarksPlaced
pub mod PartsLemmas
pub mod RowsRise
pub mod WaysLemmas
