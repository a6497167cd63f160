pub mod Blocks
pub mod Face
pub mod Idle
pub mod Morx
pub mod Wakers
pub mod inside
