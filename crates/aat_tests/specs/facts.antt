pub mod CountingHolds
