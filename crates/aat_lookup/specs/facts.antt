pub mod Falls
pub mod Filling
pub mod Rising
pub mod Search
pub mod Walks
