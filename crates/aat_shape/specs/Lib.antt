pub use Rattle.aat_layout.specs.RefusedShaping
pub use Rattle.aat_layout.specs.ShapedOrder
pub use Rattle.aat_layout.specs.Shaping
