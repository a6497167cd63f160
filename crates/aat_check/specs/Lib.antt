pub mod Numbers
pub mod inside
