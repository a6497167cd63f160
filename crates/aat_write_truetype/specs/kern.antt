pub mod ClassBytes
pub mod DenseClasses
pub mod KernBytes
pub mod KernExamples
pub mod KernLaws
pub mod KernWriteErrors
pub mod MachineBytes
pub mod PairBytes
