pub mod Anchors
pub mod KerningLaws
pub mod KerningMachine
pub mod Positions
pub mod Runs
pub mod Stack
pub mod facts
pub mod inside
