pub mod AsBox
pub mod Ends
pub mod HeldCrosses
