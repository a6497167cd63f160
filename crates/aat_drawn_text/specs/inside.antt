pub mod Drawing
pub mod Kerned
pub mod Placed
pub mod Steady
pub mod TextLine
