pub mod AnchorRows
pub mod MachinesBounded
pub mod ReadSubtables
pub mod TableBounded
