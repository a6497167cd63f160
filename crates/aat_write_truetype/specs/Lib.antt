pub mod kern
pub mod outlines
