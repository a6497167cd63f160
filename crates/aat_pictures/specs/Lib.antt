pub mod FontOutlines
pub mod inside
