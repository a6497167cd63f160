pub mod Dense
pub mod Ordered
pub mod Walks
