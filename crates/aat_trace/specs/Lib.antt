pub use Rattle.aat_buffer.specs.Buffer
pub use Rattle.aat_buffer.specs.Clusters
pub use Rattle.aat_layout.specs.Planned
pub use Rattle.aat_layout.specs.Refusals
pub mod Acts
pub mod Replay
pub mod Told
pub mod inside
