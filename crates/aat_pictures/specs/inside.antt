pub mod HalfPoints
pub mod Links
