pub mod Composing
pub mod KeptTexts
pub mod Ordering
pub mod Ways
