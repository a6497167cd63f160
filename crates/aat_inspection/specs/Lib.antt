pub mod Inspected
pub mod inside
