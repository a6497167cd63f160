pub mod ClosedSpans
pub mod OpenRuns
pub mod Standings
