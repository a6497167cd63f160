pub mod ClassSizes
pub mod Closing
pub mod Counts
pub mod Entries
pub mod MachinesBounded
pub mod ReadSubtables
pub mod TableBounded
