pub mod KernedRuns
