pub mod Bisection
pub mod Faults
pub mod NumberExamples
pub mod Numbers
pub mod TagExamples
pub mod facts
